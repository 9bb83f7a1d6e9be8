-- Definition: what outputs in memory answer and show, by the commands that they performed (IEEE Std 1815-2012, object
-- library: group 10 binary output status, group 12 control relay output block, group 41 analog output).
use Rattle.std.specs.Prelude.{ℕ, ℤ, ◌-◌, Bool, true, false, ◌&&◌, ◌==◌, nat_lt, if◌then◌else◌, List, [], length, Option, Some, None, slice_get, slice_index_or}
use Rattle.std.specs.List.{filter_map}
use Rattle.dnp_controls.specs.declared.limits.TheConstants.{MAX_COMMANDS}
use Rattle.dnp_objects.specs.declared.command.Command.{Command}
use Rattle.dnp_objects.specs.declared.command.Command.TheVariants.{Block, Set16, Set32}
use Rattle.dnp_objects.specs.declared.store.StoreFault.{StoreFault}
use Rattle.dnp_objects.specs.declared.store.StoreFault.TheVariants.{Exhausted, Memory, Device}
use Rattle.dnp_objects.specs.Status as status
use Rattle.dnp_controls.specs.declared.code.Operation.{Operation}
use Rattle.dnp_controls.specs.declared.code.Operation.TheVariants.{Nul, PulseOn, PulseOff, LatchOn, LatchOff, Other}
use Rattle.dnp_controls.specs.Code.{operation, obeys_code_rule}
use Rattle.dnp_controls.specs.Panel.{Panel}

-- ---- what is shown

-- what an operation makes of an output's latch, if it touches it
abbrev pub latch_by : Operation → Option Bool
latch_by Nul = None
latch_by PulseOn = None
latch_by PulseOff = None
latch_by LatchOn = Some true
latch_by LatchOff = Some false
latch_by Other = None

-- what a command makes of the latch of this output, if it touches it
abbrev pub latch_of : ℕ → Command → Option Bool
latch_of output (Block index code count on off) = (if index == output then latch_by (operation code) else None)
latch_of output (Set16 index value) = None
latch_of output (Set32 index value) = None

-- the output is latched on: the last one of the performed commands that touch its latch is LATCH_ON
abbrev pub is_latched : List Command → ℕ → Bool
is_latched performed output =
    let latches = filter_map (latch_of output) performed in
    slice_index_or latches (length latches - 1) false

-- the flags octet of the output: ONLINE, and STATE while it is latched on
abbrev pub status_of : List Command → ℕ → ℕ
status_of performed output = (if is_latched performed output then 0x81 else 0x01)

-- the value that a command gives this setpoint, if it sets it
abbrev pub setting_of : ℕ → Command → Option ℤ
setting_of setpoint (Block index code count on off) = None
setting_of setpoint (Set16 index value) = (if index == setpoint then Some value else None)
setting_of setpoint (Set32 index value) = (if index == setpoint then Some value else None)

-- the value of the setpoint: that of the last one of the performed commands that set it, if one did
abbrev pub value_of : List Command → ℕ → Option ℤ
value_of performed setpoint =
    let values = filter_map (setting_of setpoint) performed in
    slice_get values (length values - 1)

-- ---- what is answered

-- outputs in memory: how many binary outputs and how many setpoints there are, and the commands that
-- were performed, in order
pub record PlainState : Type 0 where
  pub outputs : ℕ
  pub setpoints : ℕ
  pub performed : List Command

-- of this many binary outputs and this many setpoints the command's is there, and a block obeys the code rule
abbrev pub can_perform : ℕ → ℕ → Command → Bool
can_perform outputs setpoints (Block index code count on off) = nat_lt index outputs && obeys_code_rule code count
can_perform outputs setpoints (Set16 index value) = nat_lt index setpoints
can_perform outputs setpoints (Set32 index value) = nat_lt index setpoints

-- the status of a command to this many binary outputs and this many setpoints
abbrev pub plain_check : ℕ → ℕ → Command → ℕ
plain_check outputs setpoints command =
    (if can_perform outputs setpoints command then status.success else status.not_supported)

abbrev pub plain_panel : PlainState → Panel
plain_panel state =
    record {
      most = MAX_COMMANDS;
      outputs = state.outputs;
      status = status_of state.performed;
      check = plain_check state.outputs state.setpoints;
      performed = state.performed;
    }

-- the one fault of outputs that keep their commands in memory
abbrev pub wants_memory : StoreFault → Bool
wants_memory Exhausted = false
wants_memory Memory = true
wants_memory Device = false

-- no outputs at all: each command is answered NOT_SUPPORTED, and no flag is set
abbrev pub no_panel : Panel
no_panel =
    record {
      most = 1;
      outputs = 0;
      status = (λ _. 0);
      check = (λ _. status.not_supported);
      performed = [];
    }

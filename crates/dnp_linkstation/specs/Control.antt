-- Definition: the CONTROL octet of a link frame (IEEE Std 1815-2012, data link layer).
use Rattle.std.specs.Prelude.{ℕ, ◌%◌, Bool, ◌==◌, if◌then◌else◌}
use Rattle.std.specs.Int.{bit_at}
use Rattle.dnp_linkstation.specs.declared.function.PrimaryFunction.{PrimaryFunction}
use Rattle.dnp_linkstation.specs.declared.function.PrimaryFunction.TheVariants as primary
use Rattle.dnp_linkstation.specs.declared.function.SecondaryFunction.{SecondaryFunction}
use Rattle.dnp_linkstation.specs.declared.function.SecondaryFunction.TheVariants as secondary
use Rattle.dnp_linkstation.specs.declared.control.TheConstants.{DIR, FCB, FUNCTIONS, PRM}
use Rattle.dnp_linkstation.specs.declared.function.TheConstants as number

-- DIR: the frame comes from the master
abbrev pub is_from_master : ℕ → Bool
is_from_master control = bit_at control DIR == 1

-- PRM: the frame asks something, and is no reply
abbrev pub is_primary : ℕ → Bool
is_primary control = bit_at control PRM == 1

-- FCB, the frame count bit
abbrev pub frame_count_bit : ℕ → Bool
frame_count_bit control = bit_at control FCB == 1

-- the function of a frame with PRM 1, in the low four bits
abbrev pub primary_function : ℕ → PrimaryFunction
primary_function control =
    (if control % FUNCTIONS == number.RESET_LINK_STATES then primary.ResetLinkStates else
    (if control % FUNCTIONS == number.TEST_LINK_STATES then primary.TestLinkStates else
    (if control % FUNCTIONS == number.CONFIRMED_USER_DATA then primary.ConfirmedUserData else
    (if control % FUNCTIONS == number.UNCONFIRMED_USER_DATA then primary.UnconfirmedUserData else
    (if control % FUNCTIONS == number.REQUEST_LINK_STATUS then primary.RequestLinkStatus else primary.Other)))))

-- the low four bits of a frame with PRM 0
abbrev pub code : SecondaryFunction → ℕ
code secondary.Ack = number.ACK
code secondary.Nack = number.NACK
code secondary.LinkStatus = number.LINK_STATUS
code secondary.NotSupported = number.NOT_SUPPORTED

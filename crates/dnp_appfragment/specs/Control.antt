-- Definition: the control octet that begins each fragment (IEEE Std 1815-2012, application layer).
use Rattle.std.specs.Prelude.{ℕ, ◌+◌, ◌<◌, Bool, if◌then◌else◌}

-- the bits FIR, FIN, CON and UNS, and the sequence number
pub record ControlBits : Type 0 where
  pub fir : Bool
  pub fin : Bool
  pub con : Bool
  pub uns : Bool
  pub seq : ℕ

-- the sequence number has four bits
abbrev pub IsControl : ControlBits → Type 0
IsControl control = control.seq < 16

-- its octet: FIR is bit 7, FIN 6, CON 5, UNS 4, and the sequence number the four lowest bits
abbrev pub control_octet : ControlBits → ℕ
control_octet control =
    (if control.fir then 0x80 else 0) + (if control.fin then 0x40 else 0) + (if control.con then 0x20 else 0)
    + (if control.uns then 0x10 else 0) + control.seq

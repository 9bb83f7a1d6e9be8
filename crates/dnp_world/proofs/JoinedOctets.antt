-- What a master sends is octets.
use Rattle.std.proofs.Common.{◌≡◌, ℕ, suc, zero, ◌+◌, ◌<◌, ◌^◌, Bool, true, false, if◌then◌else◌, List, [], ◌∷◌, ◌++◌, Some, None, arith}
use Rattle.std.specs.Prelude.{option_to_list}
use Rattle.std.specs.List.{All}
use Rattle.std.specs.Int.{byte_at, bytes_low_first}
use Rattle.std.proofs.lemmas.List.Elements.{All-nil, All-cons, All-append}
use Rattle.dnp_appfragment.specs.Control.{ControlBits, control_octet}
use Rattle.dnp_appfragment.specs.Fragments.{request_octets, confirmation}
use Rattle.dnp_appfragment.specs.Headers.{Head, header_octets, spelled}
use Rattle.dnp_master.specs.declared.task.Classes.{Classes}
use Rattle.dnp_master.specs.declared.task.Task.{Task}
use Rattle.dnp_master.specs.declared.task.Task.TheVariants.{Poll, ClearRestart, Enable, Disable, WriteTime, Select, Operate}
use Rattle.dnp_master.specs.Calls.{confirm_for}
use Rattle.dnp_master.specs.Requests.{request_for, has_class, class_header, class_headers, no_restart, time_header}
use Rattle.dnp_world.specs.OneLinkEvents.{is_own}

abbrev pub AreOctets : List ℕ → Type 0
AreOctets xs = All (λ octet. octet < 2 ^ 8) xs

and_more : (x : ℕ) (xs : List ℕ) → x < 2 ^ 8 → AreOctets xs → AreOctets (x ∷ xs)
and_more x xs low h = All-cons (λ octet. octet < 2 ^ 8) x xs low h

no_more : AreOctets []
no_more = All-nil (λ octet. octet < 2 ^ 8)

control_low : (fir fin con uns : Bool) (seq : ℕ) → seq < 16 → control_octet (record { fir = fir; fin = fin; con = con; uns = uns; seq = seq }) < 2 ^ 8
control_low fir fin con uns seq low =
    let a : (if fir then 0x80 else 0) < 0x81 = by 0x80 fir in
    let b : (if fin then 0x40 else 0) < 0x41 = by 0x40 fin in
    let c : (if con then 0x20 else 0) < 0x21 = by 0x20 con in
    let d : (if uns then 0x10 else 0) < 0x11 = by 0x10 uns in
    omega (arith, low, a, b, c, d)
  where
    by : (n : ℕ) (b : Bool) → (if b then n else 0) < n + 1
    by n true = omega arith
    by n false = omega arith

-- ---- confirms

pub confirms_octets : (control : ControlBits) → control.seq < 16 → All AreOctets (option_to_list (confirm_for control))
confirms_octets control low = by control.con
  where
    by : (b : Bool) → All AreOctets (option_to_list (if b then Some (request_octets (confirmation control.seq control.uns)) else None))
    by true =
        All-cons AreOctets (request_octets (confirmation control.seq control.uns)) []
        (and_more (control_octet (confirmation control.seq control.uns).control) (0 ∷ []) (control_low true true false control.uns control.seq low)
        (and_more 0 [] (omega arith) no_more))
        (All-nil AreOctets)
    by false = All-nil AreOctets

-- ---- requests

pub asked_low : (seq code : ℕ) (hs : List Head) → seq < 16 → code < 2 ^ 8 → AreOctets (spelled hs)
    → AreOctets (control_octet (record { fir = true; fin = true; con = false; uns = false; seq = seq }) ∷ code ∷ spelled hs)
asked_low seq code hs low few h =
    let control : ℕ = control_octet (record { fir = true; fin = true; con = false; uns = false; seq = seq }) in
    and_more control (code ∷ spelled hs) (control_low true true false false seq low) (and_more code (spelled hs) few h)

class_octets : (class : ℕ) → class < 4 → AreOctets (header_octets (class_header class))
class_octets class low =
    and_more 60 ((class + 1) ∷ 6 ∷ []) (omega arith) (and_more (class + 1) (6 ∷ []) (omega (arith, low)) (and_more 6 [] (omega arith) no_more))

if_class : (b : Bool) (class : ℕ) (hs : List Head) → class < 4 → AreOctets (spelled hs)
    → AreOctets (spelled ((if b then class_header class ∷ [] else []) ++ hs))
if_class true class hs low h = All-append (λ octet. octet < 2 ^ 8) (header_octets (class_header class)) (spelled hs) (class_octets class low) h
if_class false class hs low h = h

classes_octets : (classes : Classes) → AreOctets (spelled (class_headers classes))
classes_octets classes =
    if_class (has_class classes 1) 1 _ (omega arith)
    (if_class (has_class classes 2) 2 _ (omega arith)
    (if_class (has_class classes 3) 3 _ (omega arith)
    (if_class (has_class classes 0) 0 [] (omega arith) no_more)))

low_byte : (i x : ℕ) → byte_at i x < 2 ^ 8
low_byte zero x = omega arith
low_byte (suc i) x = omega arith

pub low_bytes : (n i x : ℕ) → AreOctets (bytes_low_first i n x)
low_bytes zero i x = no_more
low_bytes (suc n) i x = and_more (byte_at i x) (bytes_low_first (suc i) n x) (low_byte i x) (low_bytes n (suc i) x)

time_octets : (time : ℕ) → AreOctets (spelled (time_header time ∷ []))
time_octets time =
    let times : List ℕ = bytes_low_first 0 6 time ++ [] in
    and_more 50 (1 ∷ 7 ∷ 1 ∷ times) (omega arith)
    (and_more 1 (7 ∷ 1 ∷ times) (omega arith)
    (and_more 7 (1 ∷ times) (omega arith)
    (and_more 1 times (omega arith)
    (All-append (λ octet. octet < 2 ^ 8) (bytes_low_first 0 6 time) [] (low_bytes 6 0 time) no_more))))

restart_octets : AreOctets (spelled (no_restart ∷ []))
restart_octets =
    and_more 80 (1 ∷ 0 ∷ 7 ∷ 7 ∷ 0 ∷ []) (omega arith)
    (and_more 1 (0 ∷ 7 ∷ 7 ∷ 0 ∷ []) (omega arith)
    (and_more 0 (7 ∷ 7 ∷ 0 ∷ []) (omega arith)
    (and_more 7 (7 ∷ 0 ∷ []) (omega arith)
    (and_more 7 (0 ∷ []) (omega arith)
    (and_more 0 [] (omega arith) no_more)))))

pub asked_octets : (seq : ℕ) (task : Task) → seq < 16 → is_own task ≡ true → AreOctets (request_octets (request_for seq task))
asked_octets seq (Poll classes) low own = asked_low seq 1 (class_headers classes) low (omega arith) (classes_octets classes)
asked_octets seq ClearRestart low own = asked_low seq 2 (no_restart ∷ []) low (omega arith) restart_octets
asked_octets seq (Enable classes) low own = asked_low seq 20 (class_headers classes) low (omega arith) (classes_octets classes)
asked_octets seq (Disable classes) low own = asked_low seq 21 (class_headers classes) low (omega arith) (classes_octets classes)
asked_octets seq (WriteTime time) low own = asked_low seq 2 (time_header time ∷ []) low (omega arith) (time_octets time)
asked_octets seq (Select command) low own = absurd (cc)
asked_octets seq (Operate command) low own = absurd (cc)

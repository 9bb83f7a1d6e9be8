-- The octets of a command are read as that command and as no other.
use Rattle.std.proofs.Common.{◌≡◌, sym, ◌∙◌, ap, ℕ, ◌+◌, ◌%◌, ◌^◌, ◌<◌, List, [], ◌∷◌, ◌++◌, length, drop, get_or, Some, IfSome, arith, ℤ, Fits}
use Rattle.std.specs.Prelude.{FitsSigned}
use Rattle.std.specs.Int.{w16, w32, cast_unsigned, cast_signed}
use Rattle.std.proofs.lemmas.Int.{to_z-of_z}
use Rattle.std.proofs.lemmas.List.{append_assoc, drop_at, get_or-drop, length-append}
use Rattle.std.proofs.Math.Nat.{mod-eq_of_lt}
use Rattle.std.proofs.Math.Facts.{Fits-of_z}
use Rattle.byteorder.specs.Endian.{little_number, little_bytes}
use Rattle.byteorder.specs.Numbers.{length-bytes_low_first}
use Rattle.dnp_objects.specs.declared.command.Command.{Command}
use Rattle.dnp_objects.specs.declared.command.Command.TheVariants.{Block, Set16, Set32}
use Rattle.dnp_objects.specs.declared.table.Content.{Content}
use Rattle.dnp_objects.specs.declared.table.Content.TheVariants as content
use Rattle.dnp_objects.specs.Objects.{IsContent, content_size}
use Rattle.dnp_objects.specs.Commands.{IsInRange, command_octets, carrier, index_of, IsCommandOf}
use Rattle.dnp_objects.specs.Parts.{command_of}
use Rattle.dnp_objects.proofs.Values.{AreOctets, number_in}
use Rattle.dnp_objects.proofs.CommandOctets.{is_block, is_setpoint}

-- the number whose octets stand in front
number_front : (n x : ℕ) (rest : List ℕ) → x < 256 ^ n → little_number n (little_bytes n x ++ rest) ≡ x
number_front n x rest small = number_in n x rest ∙ mod-eq_of_lt small

-- the octet after some
octet_behind : (n : ℕ) (xs : List ℕ) (x : ℕ) → length xs ≡ n → get_or (xs ++ x ∷ []) n 0 ≡ x
octet_behind n xs x size =
    let here : get_or (drop n (xs ++ x ∷ [])) 0 0 ≡ get_or (xs ++ x ∷ []) (n + 0) 0 = get_or-drop n (xs ++ x ∷ []) 0 0 in
    let same : n + 0 ≡ n = omega arith in
    ap (λ (m : ℕ). get_or (xs ++ x ∷ []) m 0) (sym same) ∙ sym here ∙ ap (λ (l : List ℕ). get_or l 0 0) (drop_at xs (x ∷ []) n size)

-- ---- a block

block_back : (index code count on off status : ℕ) → on < 2 ^ 32 → off < 2 ^ 32
    → command_of content.Block index (command_octets (Block index code count on off) status) ≡ Some (Block index code count on off, status % 128)
block_back index code count on off status on_small off_small =
    let a : List ℕ = little_bytes 4 on in
    let b : List ℕ = little_bytes 4 off in
    let z : List ℕ = status ∷ [] in
    let octets : List ℕ = code ∷ count ∷ ((a ++ b) ++ z) in
    let a_size : length a ≡ 4 = length-bytes_low_first 0 4 on in
    let b_size : length b ≡ 4 = length-bytes_low_first 0 4 off in
    let first : little_number 4 (drop 2 octets) ≡ on = ap (little_number 4) (append_assoc a b z) ∙ number_front 4 on (b ++ z) on_small in
    let behind : drop 6 octets ≡ b ++ z = ap (drop 4) (append_assoc a b z) ∙ drop_at a (b ++ z) 4 a_size in
    let second : little_number 4 (drop 6 octets) ≡ off = ap (little_number 4) behind ∙ number_front 4 off z off_small in
    let last : get_or ((a ++ b) ++ z) 8 0 ≡ status = octet_behind 8 (a ++ b) status (omega (arith, a_size, b_size, length-append a b)) in
    λ i. Some (Block index code count (first i) (second i), last i % 128)

-- ---- an analog output

set16_back : (index : ℕ) (value : ℤ) (status : ℕ) → FitsSigned w16 value
    → command_of (content.Setpoint 2) index (command_octets (Set16 index value) status) ≡ Some (Set16 index value, status % 128)
set16_back index value status fits =
    let a : List ℕ = little_bytes 2 (cast_unsigned w16 value) in
    let number : little_number 2 (a ++ status ∷ []) ≡ cast_unsigned w16 value % 65536 = number_in 2 (cast_unsigned w16 value) (status ∷ []) in
    let small : Fits w16 (cast_unsigned w16 value) = Fits-of_z fits in
    let read : cast_signed w16 (little_number 2 (a ++ status ∷ [])) ≡ value =
    ap (cast_signed w16) (number ∙ mod-eq_of_lt small.fits) ∙ to_z-of_z w16 value fits in
    let last : get_or (a ++ status ∷ []) 2 0 ≡ status = octet_behind 2 a status (length-bytes_low_first 0 2 (cast_unsigned w16 value)) in
    λ i. Some (Set16 index (read i), last i % 128)

set32_back : (index : ℕ) (value : ℤ) (status : ℕ) → FitsSigned w32 value
    → command_of (content.Setpoint 4) index (command_octets (Set32 index value) status) ≡ Some (Set32 index value, status % 128)
set32_back index value status fits =
    let a : List ℕ = little_bytes 4 (cast_unsigned w32 value) in
    let number : little_number 4 (a ++ status ∷ []) ≡ cast_unsigned w32 value % 4294967296 = number_in 4 (cast_unsigned w32 value) (status ∷ []) in
    let small : Fits w32 (cast_unsigned w32 value) = Fits-of_z fits in
    let read : cast_signed w32 (little_number 4 (a ++ status ∷ [])) ≡ value =
    ap (cast_signed w32) (number ∙ mod-eq_of_lt small.fits) ∙ to_z-of_z w32 value fits in
    let last : get_or (a ++ status ∷ []) 4 0 ≡ status = octet_behind 4 a status (length-bytes_low_first 0 4 (cast_unsigned w32 value)) in
    λ i. Some (Set32 index (read i), last i % 128)

-- ---- both ways

own_back : (command : Command) (status : ℕ) → IsInRange command
    → command_of (carrier command) (index_of command) (command_octets command status) ≡ Some (command, status % 128)
own_back (Block index code count on off) status is = block_back index code count on off status is.0 is.1
own_back (Set16 index value) status is = set16_back index value status is
own_back (Set32 index value) status is = set32_back index value status is

pub command_again : (c : Content) (index : ℕ) (octets : List ℕ) (command : Command) (status : ℕ) → IsCommandOf c index octets command status
    → command_of c index octets ≡ Some (command, status)
command_again c index octets command status is =
    (λ i. command_of (sym is.carrier_is i) (sym is.index_is i) (is.spelled i))
    ∙ own_back command is.status_octet is.in_range
    ∙ ap (λ (s : ℕ). Some (command, s)) (sym is.status_is)

pub command_reads : (c : Content) (index : ℕ) (octets : List ℕ) → IsContent c → AreOctets octets → length octets ≡ content_size c
    → IfSome (command_of c index octets) (λ a. IsCommandOf c index octets a.0 a.1)
command_reads (content.Row s) index octets is small size = tt
command_reads (content.WrittenRow s) index octets is small size = tt
command_reads content.Block index octets is small size = is_block index octets small size
command_reads (content.Setpoint w) index octets is small size = is_setpoint w index octets is small size
command_reads (content.Other n) index octets is small size = tt

-- The command that octets give has those octets.
use Rattle.std.proofs.Common.{◌≡◌, ℕ, suc, ◌+◌, ◌-◌, ◌%◌, ◌^◌, ◌<◌, ◌⊎◌, List, [], ◌∷◌, ◌++◌, length, take, drop, get_or, refl, sym, ◌∙◌, ap, subst, arith, inl, inr, Fits}
use Rattle.std.specs.Prelude.{FitsSigned}
use Rattle.std.specs.Int.{w16, w32, cast_signed}
use Rattle.std.proofs.lemmas.Int.{of_z-to_z}
use Rattle.std.proofs.lemmas.List.{append_assoc, take-append-drop, drop-drop, drop_more, drop_all, length-drop}
use Rattle.std.proofs.Math.Facts.{sfits_to_z}
use Rattle.byteorder.specs.Endian.{little_number, little_bytes}
use Rattle.byteorder.specs.Numbers.{little_from-lt}
use Rattle.dnp_objects.specs.declared.table.Content.TheVariants as content
use Rattle.dnp_objects.specs.Parts.{block_of, setpoint_of}
use Rattle.dnp_objects.specs.declared.command.Command.{Command}
use Rattle.dnp_objects.specs.Commands.{carrier, index_of, IsInRange, order_octets, command_octets, IsCommandOf}
use Rattle.dnp_objects.proofs.Values.{AreOctets, dropped_octets, octets_of_number}

-- the last octet stands alone
last_of : (n : ℕ) (octets : List ℕ) → length octets ≡ suc n → drop n octets ≡ get_or octets n 0 ∷ []
last_of n octets size =
    drop_more octets n 0 (omega arith) ∙ ap (λ (l : List ℕ). get_or octets n 0 ∷ l) (drop_all (n + 1) octets (omega arith))

pub is_block : (i : ℕ) (octets : List ℕ) → AreOctets octets → length octets ≡ 11
    → IsCommandOf content.Block i octets (block_of i octets) (get_or octets 10 0 % 128)
is_block i octets small size =
    let on : List ℕ = drop 2 octets in
    let off : List ℕ = drop 6 octets in
    let on_size : length on ≡ length octets - 2 = length-drop 2 octets in
    let off_size : length off ≡ length octets - 6 = length-drop 6 octets in
    let a : List ℕ = little_bytes 4 (little_number 4 on) in
    let b : List ℕ = little_bytes 4 (little_number 4 off) in
    let z : List ℕ = get_or octets 10 0 ∷ [] in
    let on_is : a ≡ take 4 on = octets_of_number 4 on (dropped_octets 2 octets small) (omega arith) in
    let off_is : b ≡ take 4 off = octets_of_number 4 off (dropped_octets 6 octets small) (omega arith) in
    let end : drop 4 off ≡ z = drop-drop 4 6 octets ∙ last_of 10 octets size in
    let second : off ≡ b ++ z =
    sym (take-append-drop 4 off) ∙ ap (λ (l : List ℕ). l ++ drop 4 off) (sym off_is) ∙ ap (λ (l : List ℕ). b ++ l) end in
    let first : on ≡ a ++ (b ++ z) =
    sym (take-append-drop 4 on) ∙ ap (λ (l : List ℕ). l ++ drop 4 on) (sym on_is) ∙ ap (λ (l : List ℕ). a ++ l) (drop-drop 4 2 octets ∙ second) in
    let spelled : octets ≡ command_octets (block_of i octets) (get_or octets 10 0) =
    drop_more octets 0 0 (omega arith)
    ∙ ap (λ (l : List ℕ). get_or octets 0 0 ∷ l) (drop_more octets 1 0 (omega arith))
    ∙ ap (λ (l : List ℕ). get_or octets 0 0 ∷ get_or octets 1 0 ∷ l) (first ∙ sym (append_assoc a b z)) in
    record {
      carrier_is = refl;
      index_is = refl;
      in_range = (little_from-lt 0 4 on (dropped_octets 2 octets small), little_from-lt 0 4 off (dropped_octets 6 octets small));
      status_octet = get_or octets 10 0;
      status_is = refl;
      spelled = spelled;
    }

-- a number of two or four octets, read as signed, fits
signed_16 : (n : ℕ) → n < 2 ^ 16 → FitsSigned w16 (cast_signed w16 n)
signed_16 n below = let fits : Fits w16 n = record { fits = below } in sfits_to_z fits

signed_32 : (n : ℕ) → n < 2 ^ 32 → FitsSigned w32 (cast_signed w32 n)
signed_32 n below = let fits : Fits w32 n = record { fits = below } in sfits_to_z fits

-- the octets of a value and a status octet are those of the command with that value
value_and_status : (w i : ℕ) (octets : List ℕ) (command : Command) → carrier command ≡ content.Setpoint w → index_of command ≡ i → IsInRange command
    → order_octets command ≡ take w octets → length octets ≡ suc w → IsCommandOf (content.Setpoint w) i octets command (get_or octets w 0 % 128)
value_and_status w i octets command carries index range value size = record {
  carrier_is = carries;
  index_is = index;
  in_range = range;
  status_octet = get_or octets w 0;
  status_is = refl;
  spelled = sym (take-append-drop w octets) ∙ ap (λ (l : List ℕ). take w octets ++ l) (last_of w octets size)
      ∙ ap (λ (l : List ℕ). l ++ get_or octets w 0 ∷ []) (sym value);
}

is_set16 : (i : ℕ) (octets : List ℕ) → AreOctets octets → length octets ≡ 3
    → IsCommandOf (content.Setpoint 2) i octets (setpoint_of 2 i octets) (get_or octets 2 0 % 128)
is_set16 i octets small size =
    let below : little_number 2 octets < 65536 = little_from-lt 0 2 octets small in
    value_and_status 2 i octets (setpoint_of 2 i octets) refl refl (signed_16 (little_number 2 octets) below)
    (ap (little_bytes 2) (of_z-to_z w16 (little_number 2 octets) below) ∙ octets_of_number 2 octets small (omega arith)) size

is_set32 : (i : ℕ) (octets : List ℕ) → AreOctets octets → length octets ≡ 5
    → IsCommandOf (content.Setpoint 4) i octets (setpoint_of 4 i octets) (get_or octets 4 0 % 128)
is_set32 i octets small size =
    let below : little_number 4 octets < 4294967296 = little_from-lt 0 4 octets small in
    value_and_status 4 i octets (setpoint_of 4 i octets) refl refl (signed_32 (little_number 4 octets) below)
    (ap (little_bytes 4) (of_z-to_z w32 (little_number 4 octets) below) ∙ octets_of_number 4 octets small (omega arith)) size

pub is_setpoint : (w i : ℕ) (octets : List ℕ) → (w ≡ 2) ⊎ (w ≡ 4) → AreOctets octets → length octets ≡ w + 1
    → IsCommandOf (content.Setpoint w) i octets (setpoint_of w i octets) (get_or octets w 0 % 128)
is_setpoint w i octets (inl two) small size =
    subst (λ (k : ℕ). IsCommandOf (content.Setpoint k) i octets (setpoint_of k i octets) (get_or octets k 0 % 128)) (sym two)
    (is_set16 i octets small (omega arith))
is_setpoint w i octets (inr four) small size =
    subst (λ (k : ℕ). IsCommandOf (content.Setpoint k) i octets (setpoint_of k i octets) (get_or octets k 0 % 128)) (sym four)
    (is_set32 i octets small (omega arith))

-- The requests of a command: they are octets, and the command is read of them as it is.
use Rattle.std.proofs.Common.{◌≡◌, ℕ, ◌%◌, ◌/◌, ◌<◌, ◌^◌, false, List, [], ◌∷◌, ◌++◌, map, option_to_list, Option, Some, Ok, refl, ap, ◌∙◌, arith}
use Rattle.std.specs.Prelude.{slice_get}
use Rattle.std.specs.Int.{w16, w32, bytes_low_first, cast_unsigned}
use Rattle.std.proofs.lemmas.List.Elements.{All-nil, All-cons, All-append}
use Rattle.dnp_objects.specs.Commands.{IsInRange, index_of, order_octets}
use Rattle.dnp_objects.specs.Objects.{objects, content_of}
use Rattle.dnp_objects.specs.declared.command.Command.{Command}
use Rattle.dnp_objects.specs.declared.command.Command.TheVariants.{Block, Set16, Set32}
use Rattle.dnp_appfragment.specs.Control.{IsControl}
use Rattle.dnp_appfragment.specs.Fragments.{Asked, request_octets}
use Rattle.dnp_appfragment.specs.Headers.{Head, AreHeaders, IsHeaderAt, begin, header_octets, spelled}
use Rattle.dnp_appfragment.specs.Items.{Item, Holds, command_item}
use Rattle.dnp_appfragment.specs.Meaning.{request_at, command_in}
use Rattle.dnp_appfragment.specs.Objects.{IsCommand}
use Rattle.dnp_appfragment.specs.Table.{form_of, is_response, rules, takes_of}
use Rattle.dnp_appfragment.specs.Written.{order}
use Rattle.dnp_appfragment.specs.declared.table.Form.TheVariants as form
use Rattle.dnp_master.specs.Requests.{request_for}
use Rattle.dnp_master.specs.declared.task.Task.TheVariants.{Select, Operate}
use Rattle.dnp_world.specs.CommandWidths.{HasWidths}
use Rattle.dnp_world.specs.Octets.{asked_commands, commands_in}
use Rattle.dnp_world.proofs.JoinedOctets.{AreOctets, asked_low, low_bytes}

-- what the crate of fragments promises of a command that is written
pub record ReadLaws : Type 0 where
  pub holds : (command : Command) (status : ℕ) → index_of command < 2 ^ 16 → Holds (order command status) (command_item command status ∷ [])
  pub is_read : (header : Head) (items : List Item) (k : ℕ) (command : Command) (status : ℕ) → Holds header items → IsInRange command → status < 128
      → slice_get items k ≡ Some (command_item command status) → IsCommand header k (command, status)
  pub is_said : (header : Head) (k : ℕ) (answer : Command × ℕ) → IsCommand header k answer → command_in header k ≡ Some answer
  pub is_request : (asked : Asked) → IsControl asked.control → is_response asked.function ≡ false
      → AreHeaders (form_of asked.function) begin asked.headers → request_at (request_octets asked) ≡ Ok asked

-- ---- octets

and_more : (x : ℕ) (xs : List ℕ) → x < 2 ^ 8 → AreOctets xs → AreOctets (x ∷ xs)
and_more x xs low h = All-cons (λ octet. octet < 2 ^ 8) x xs low h

no_more : AreOctets []
no_more = All-nil (λ octet. octet < 2 ^ 8)

and_all : (xs ys : List ℕ) → AreOctets xs → AreOctets ys → AreOctets (xs ++ ys)
and_all xs ys h k = All-append (λ octet. octet < 2 ^ 8) xs ys h k

order_low : (command : Command) → HasWidths command → AreOctets (order_octets command)
order_low (Block index code count on off) (wide, few, less, ons, offs) =
    and_more code (count ∷ (bytes_low_first 0 4 on ++ bytes_low_first 0 4 off)) few
    (and_more count (bytes_low_first 0 4 on ++ bytes_low_first 0 4 off) less
    (and_all (bytes_low_first 0 4 on) (bytes_low_first 0 4 off) (low_bytes 4 0 on) (low_bytes 4 0 off)))
order_low (Set16 index value) h = low_bytes 2 0 (cast_unsigned w16 value)
order_low (Set32 index value) h = low_bytes 4 0 (cast_unsigned w32 value)

pub index_low : (command : Command) → HasWidths command → index_of command < 2 ^ 16
index_low (Block index code count on off) h = h.0
index_low (Set16 index value) h = h.0
index_low (Set32 index value) h = h.0

pub in_range : (command : Command) → HasWidths command → IsInRange command
in_range (Block index code count on off) (wide, few, less, ons, offs) = (ons, offs)
in_range (Set16 index value) h = h.1
in_range (Set32 index value) h = h.1

-- group, variation, qualifier and count, the index, the command and its status
abbrev spelling : ℕ → ℕ → Command → List ℕ
spelling group variation command =
    group ∷ variation ∷ 40 ∷ 1 ∷ 0 ∷ (index_of command % 256) ∷ (index_of command / 256) ∷ (order_octets command ++ 0 ∷ [])

spelling_low : (group variation : ℕ) (command : Command) → group < 2 ^ 8 → variation < 2 ^ 8 → HasWidths command
    → AreOctets (spelling group variation command)
spelling_low group variation command low few h =
    let index : ℕ = index_of command in
    let wide : index < 2 ^ 16 = index_low command h in
    let octets : List ℕ = order_octets command ++ 0 ∷ [] in
    and_more group (variation ∷ 40 ∷ 1 ∷ 0 ∷ (index % 256) ∷ (index / 256) ∷ octets) low
    (and_more variation (40 ∷ 1 ∷ 0 ∷ (index % 256) ∷ (index / 256) ∷ octets) few
    (and_more 40 (1 ∷ 0 ∷ (index % 256) ∷ (index / 256) ∷ octets) (omega arith)
    (and_more 1 (0 ∷ (index % 256) ∷ (index / 256) ∷ octets) (omega arith)
    (and_more 0 ((index % 256) ∷ (index / 256) ∷ octets) (omega arith)
    (and_more (index % 256) ((index / 256) ∷ octets) (omega arith)
    (and_more (index / 256) octets (omega (arith, wide))
    (and_all (order_octets command) (0 ∷ []) (order_low command h) (and_more 0 [] (omega arith) no_more))))))))

spelled_low : (command : Command) → HasWidths command → AreOctets (header_octets (order command 0))
spelled_low (Block index code count on off) h = spelling_low 12 1 (Block index code count on off) (omega arith) (omega arith) h
spelled_low (Set16 index value) h = spelling_low 41 2 (Set16 index value) (omega arith) (omega arith) h
spelled_low (Set32 index value) h = spelling_low 41 1 (Set32 index value) (omega arith) (omega arith) h

headers_low : (command : Command) → HasWidths command → AreOctets (spelled (order command 0 ∷ []))
headers_low command h = and_all (header_octets (order command 0)) [] (spelled_low command h) no_more

pub select_octets : (seq : ℕ) (command : Command) → seq < 16 → HasWidths command → AreOctets (request_octets (request_for seq (Select command)))
select_octets seq command low h = asked_low seq 3 (order command 0 ∷ []) low (omega arith) (headers_low command h)

pub operate_octets : (seq : ℕ) (command : Command) → seq < 16 → HasWidths command → AreOctets (request_octets (request_for seq (Operate command)))
operate_octets seq command low h = asked_low seq 4 (order command 0 ∷ []) low (omega arith) (headers_low command h)

-- ---- what is read of them

pub order_fits : (command : Command) → IsHeaderAt form.Command begin (order command 0)
unfolding takes_of rules content_of objects
order_fits (Block index code count on off) =
    record { header = record { object = refl; fits = omega arith; forward = tt; objects = refl }; common = refl; timed = λ relative. absurd (cc) }
order_fits (Set16 index value) =
    record { header = record { object = refl; fits = omega arith; forward = tt; objects = refl }; common = refl; timed = λ relative. absurd (cc) }
order_fits (Set32 index value) =
    record { header = record { object = refl; fits = omega arith; forward = tt; objects = refl }; common = refl; timed = λ relative. absurd (cc) }

pub the_command : ReadLaws → (command : Command) → HasWidths command → command_in (order command 0) 0 ≡ Some (command, 0)
the_command laws command h =
    laws.is_said (order command 0) 0 (command, 0)
    (laws.is_read (order command 0) (command_item command 0 ∷ []) 0 command 0 (laws.holds command 0 (index_low command h)) (in_range command h)
    (omega arith) refl)

-- an OPERATE asks for its command
pub operate_asks : ReadLaws → (seq : ℕ) (command : Command) → seq < 16 → HasWidths command
    → commands_in (request_octets (request_for seq (Operate command))) ≡ command ∷ []
unfolding commands_in
operate_asks laws seq command low h =
    let asked : Asked = request_for seq (Operate command) in
    let read : request_at (request_octets asked) ≡ Ok asked = laws.is_request asked low refl (order_fits command, tt) in
    ap asked_commands read
    ∙ ap (λ (o : Option (Command × ℕ)). (map (λ x. x.0) (option_to_list o) ++ []) ++ []) (the_command laws command h)

-- a SELECT asks for none
pub select_asks : ReadLaws → (seq : ℕ) (command : Command) → seq < 16 → commands_in (request_octets (request_for seq (Select command))) ≡ []
unfolding commands_in
select_asks laws seq command low =
    let asked : Asked = request_for seq (Select command) in
    let read : request_at (request_octets asked) ≡ Ok asked = laws.is_request asked low refl (order_fits command, tt) in
    ap asked_commands read

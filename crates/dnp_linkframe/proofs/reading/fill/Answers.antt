-- What is read is what the cells say.
use Rattle.std.proofs.Common.{◌≡◌, ℕ, ◌-◌, List, length, drop, get_or, subst, sym, arith, refl, ap}
use Rattle.std.proofs.lemmas.List.{take_rest, length-drop}
use Rattle.dnp_linkframe.specs.Frames.{AreChecked, blocks}
use Rattle.dnp_linkframe.specs.steps.Checks.{EachChecked}
use Rattle.dnp_linkframe.proofs.Units.{spells_from, first_octet, second_octet}
use Rattle.dnp_linkframe.proofs.ReadBlocks.{one_size}
use Rattle.dnp_linkframe.proofs.reading.fill.Goals as goal

pub copy_blocks-requires-clause-sized : goal.copy_blocks-requires-clause-sized
copy_blocks-requires-clause-sized c =
    let octet = c.type_inv.unit 2 in (
      get_or c.args.unit.now 2 0 - 5,
      omega arith,
      omega (arith, ap length (take_rest c.args.unit.now 10), length-drop 10 c.args.unit.now, c.requires.sized, c.requires.begins.header.ten),
    )

pub copy_blocks-requires-clause-checked : goal.copy_blocks-requires-clause-checked
copy_blocks-requires-clause-checked c = subst (λ (t : List ℕ). EachChecked t) (sym (take_rest c.args.unit.now 10)) c.requires.checked

pub returns : goal.returns
returns c =
    let unit = c.args.unit.now in
    let begins = c.requires.begins in
    let user = c.copy_blocks.new.user.items in
    let here : AreChecked (blocks user) (drop 10 unit) =
    subst (λ (t : List ℕ). AreChecked (blocks user) t) (take_rest unit 10) c.copy_blocks.ensures in
    let size : length user ≡ get_or unit 2 0 - 5 =
    one_size user (drop 10 unit) (get_or unit 2 0 - 5) here (omega (arith, length-drop 10 unit, c.requires.sized, begins.header.ten)) in
    spells_from unit _ begins.header.ten (λ i. let fits = c.type_inv.unit i in omega arith)
    (first_octet unit begins.header.start) (second_octet unit begins.header.start) begins.header.checked
    (omega (arith, size, begins.long)) refl c.from_le_bytes-frame.ensures c.from_le_bytes-frame-2.ensures here

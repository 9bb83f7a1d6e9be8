-- The tests before have ruled out each earlier fault.
use Rattle.std.proofs.Common.{ℕ, List, subst, arith}
use Rattle.std.proofs.lemmas.List.{take_rest}
use Rattle.dnp_linkframe.specs.steps.Checks.{IsFirstUnchecked, EachChecked}
use Rattle.dnp_linkframe.proofs.Units.{first_unchecked, start_is}
use Rattle.dnp_linkframe.proofs.reading.check_unit.Goals as goal

pub returns-in-Ok-clause-whole : goal.returns-in-Ok-clause-whole
returns-in-Ok-clause-whole c =
    let size = c.from-size.ensures in
    let count = c.div_ceil.ensures in
    let long = c.if-unit-lt-LENGTH_OF_NONE.false in
    let ten = c.if-unit-lt-CHECKED_HEADER.false in
    record {
      begins = record {
        header = record {
          ten = ten;
          start = start_is c.args.unit.now (omega arith) c.if-unit-ne5.false c.if-unit-ne100.false;
          checked = c.is_checked.ensures.0 c.if-not-is_checked.false;
        };
        long = long;
      };
      sized = let whole = c.if-unit-size.false in omega arith;
      checked = subst (λ (t : List ℕ). EachChecked t) (take_rest c.args.unit.now 10) (c.in-Ok.ensures).checked;
    }

pub returns-in-Err-clause-fault : goal.returns-in-Err-clause-fault
returns-in-Err-clause-fault c =
    let size = c.from-size.ensures in
    let count = c.div_ceil.ensures in
    let long = c.if-unit-lt-LENGTH_OF_NONE.false in
    let whole = c.if-unit-size.false in
    first_unchecked c.args.unit.now c.in-Err.number c.if-unit-lt-CHECKED_HEADER.false c.if-unit-ne5.false c.if-unit-ne100.false
    (c.is_checked.ensures.0 c.if-not-is_checked.false) long (omega arith)
    (subst (λ (t : List ℕ). IsFirstUnchecked t c.in-Err.number) (take_rest c.args.unit.now 10) (c.in-Err.ensures).fault)

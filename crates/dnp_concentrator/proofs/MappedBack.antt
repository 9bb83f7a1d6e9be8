-- Rows and commands through the index map: what stands above is undone to what stood below, and back.
use Rattle.std.proofs.Common.{◌≡◌, ℕ, Option, Some, None, refl, ap, subst, arith}
use Rattle.std.specs.Option.{option_map}
use Rattle.dnp_objects.specs.declared.row.Row.{Row}
use Rattle.dnp_objects.specs.declared.command.Command.{Command}
use Rattle.dnp_objects.specs.declared.command.Command.TheVariants.{Block, Set16, Set32}
use Rattle.dnp_objects.specs.Commands.{index_of}
use Rattle.std.specs.Prelude.{List}
use Rattle.dnp_concentrator.specs.declared.index_kind.IndexKind.TheVariants.{Output, Setpoint}
use Rattle.dnp_concentrator.specs.declared.span.Spans.{Spans}
use Rattle.dnp_concentrator.specs.IndexKinds.{kind_of_points, kind_of_command}
use Rattle.dnp_concentrator.specs.IndexMap.{IsMap, index_above, index_below}
use Rattle.dnp_concentrator.specs.Mapped.{row_above, row_below, with_index, command_above, command_below}
use Rattle.dnp_concentrator.proofs.Mapping.{up_and_down, down_and_up}

-- ---- rows

abbrev undone_row : Row → ℕ × ℕ → ℕ × Row
undone_row row p = (p.0, record row { index = p.1 })

pub row_undone : (spans : List Spans) (substation : ℕ) (row above : Row) → IsMap spans → row_above spans substation row ≡ Some above
    → row_below spans above ≡ Some (substation, row)
row_undone spans substation row above m e = by (index_above spans substation (kind_of_points row.kind) row.index) refl e
  where
    by : (o : Option ℕ) → index_above spans substation (kind_of_points row.kind) row.index ≡ o
        → option_map (λ (index : ℕ). record row { index = index }) o ≡ Some above → row_below spans above ≡ Some (substation, row)
    by None is e = absurd (grind (arith, e))
    by (Some index) is e =
        let r : Row = record row { index = index } in
        let same : r ≡ above = grind (arith, e) in
        subst (λ (x : Row). ◌≡◌ {A = Option (ℕ × Row)} (row_below spans x) (Some (substation, row))) same
        (ap (option_map (undone_row row)) (up_and_down spans (kind_of_points row.kind) substation row.index index m is))

-- ---- commands

pub command_redone : (spans : List Spans) (command : Command) (p : ℕ × Command) → command_below spans command ≡ Some p
    → command_above spans p.0 p.1 ≡ Some command
command_redone spans command p e = by (index_below spans (kind_of_command command) (index_of command)) refl e
  where
    back : (command : Command) (q : ℕ × ℕ) → index_below spans (kind_of_command command) (index_of command) ≡ Some q
        → command_above spans q.0 (with_index command q.1) ≡ Some command
    back (Block index code count on off) q is = ap (option_map (λ (i : ℕ). Block i code count on off)) (down_and_up spans Output q.0 q.1 index is)
    back (Set16 index value) q is = ap (option_map (λ (i : ℕ). Set16 i value)) (down_and_up spans Setpoint q.0 q.1 index is)
    back (Set32 index value) q is = ap (option_map (λ (i : ℕ). Set32 i value)) (down_and_up spans Setpoint q.0 q.1 index is)

    by : (o : Option (ℕ × ℕ)) → index_below spans (kind_of_command command) (index_of command) ≡ o
        → option_map (λ (q : ℕ × ℕ). let r : ℕ × Command = (q.0, with_index command q.1) in r) o ≡ Some p
        → command_above spans p.0 p.1 ≡ Some command
    by None is e = absurd (grind (arith, e))
    by (Some q) is e =
        let r : ℕ × Command = (q.0, with_index command q.1) in
        let same : r ≡ p = grind (arith, e) in
        subst (λ (x : ℕ × Command). command_above spans x.0 x.1 ≡ Some command) same (back command q is)

pub command_undone : (spans : List Spans) (substation : ℕ) (command above : Command) → IsMap spans → command_above spans substation command ≡ Some above
    → command_below spans above ≡ Some (substation, command)
command_undone spans substation command above m e = by (index_above spans substation (kind_of_command command) (index_of command)) refl e
  where
    back : (command : Command) (i : ℕ) → index_above spans substation (kind_of_command command) (index_of command) ≡ Some i
        → ◌≡◌ {A = Option (ℕ × Command)} (command_below spans (with_index command i)) (Some (substation, command))
    back (Block index code count on off) i is =
        ap (option_map (λ (q : ℕ × ℕ). let r : ℕ × Command = (q.0, Block q.1 code count on off) in r)) (up_and_down spans Output substation index i m is)
    back (Set16 index value) i is =
        ap (option_map (λ (q : ℕ × ℕ). let r : ℕ × Command = (q.0, Set16 q.1 value) in r)) (up_and_down spans Setpoint substation index i m is)
    back (Set32 index value) i is =
        ap (option_map (λ (q : ℕ × ℕ). let r : ℕ × Command = (q.0, Set32 q.1 value) in r)) (up_and_down spans Setpoint substation index i m is)

    by : (o : Option ℕ) → index_above spans substation (kind_of_command command) (index_of command) ≡ o
        → option_map (λ (i : ℕ). with_index command i) o ≡ Some above
        → ◌≡◌ {A = Option (ℕ × Command)} (command_below spans above) (Some (substation, command))
    by None is e = absurd (grind (arith, e))
    by (Some i) is e =
        let same : with_index command i ≡ above = grind (arith, e) in
        subst (λ (x : Command). ◌≡◌ {A = Option (ℕ × Command)} (command_below spans x) (Some (substation, command))) same (back command i is)

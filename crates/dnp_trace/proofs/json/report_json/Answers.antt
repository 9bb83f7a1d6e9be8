-- One line more at each step.
use Rattle.std.proofs.Common.{◌≡◌, ℕ, ◌<◌, Bool, List, [], ◌∷◌, ◌++◌, length, subst, sym, refl, ◌∙◌, ap, rules, arith}
use Rattle.std.proofs.lemmas.Grind.{common_steps}
use Rattle.dnp_trace.specs.ReportJsons.{AreLinesJson, IsReportJson, line_json, kind_of, first_line, first_word, lines_below, empty_after}
use Rattle.dnp_trace.proofs.Joining.{json_more, json_all, shorter}
use Rattle.dnp_trace.proofs.json.report_json.Goals as goal

pub lines-preserved : goal.lines-preserved
lines-preserved c = record {
  text = search rules;
  so_far = λ more below.
      let rest : List ℕ = c.lines.rest.now in
      let some : 0 < length rest = grind arith in
      let line : c.first_line.result.0.now ≡ first_line rest = c.first_line.ensures.line in
      let kind : c.kind_of-kind.result ≡ kind_of (first_word (first_line rest)) =
      c.kind_of-kind.ensures ∙ ap kind_of (c.first_word.ensures.word ∙ ap first_word line) in
      let put = c.in_ok-put_line.ensures in
      let written : c.put_line.new.sheet ≡ c.lines.sheet ++ line_json (kind_of (first_word (first_line rest))) c.lines.empty (first_line rest) =
      cc (put, line, kind) in
      let left : AreLinesJson (lines_below rest) (empty_after (kind_of (first_word (first_line rest))) c.lines.empty) more =
      subst (λ (t : List ℕ). AreLinesJson t (empty_after (kind_of (first_word (first_line rest))) c.lines.empty) more) c.first_line.ensures.below
      (subst (λ (b : Bool). AreLinesJson c.first_line.result.1.now b more)
      (c.is_empty_after-empty.ensures ∙ ap (λ k. empty_after k c.lines.empty) kind) below) in
      json_more c.args.text.now rest c.lines.empty c.lines.sheet c.put_line.new.sheet some written c.lines.invariant.so_far more left;
}

pub lines-smaller : goal.lines-smaller
lines-smaller c =
    let some : 0 < length c.lines.rest.now = grind arith in
    subst (λ (t : List ℕ). length t < length c.lines.rest.now) (sym c.first_line.ensures.below) (shorter c.lines.rest.now some)

pub returns : goal.returns
returns c =
    let none : length c.lines.rest.now ≡ 0 = grind arith in
    json_all c.args.text.now c.lines.rest.now c.lines.empty c.lines.sheet c.into_octets.result.items none
    (c.into_octets.ensures ∙ c.in_ok-word-2.ensures) c.lines.invariant.so_far

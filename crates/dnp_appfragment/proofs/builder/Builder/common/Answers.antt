use Rattle.std.proofs.Common.{◌≡◌, ◌∙◌, sym, ap, subst, false, List, ℕ}
use Rattle.dnp_appfragment.specs.declared.header.Range.TheVariants as range
use Rattle.dnp_appfragment.specs.Built.{context_of}
use Rattle.dnp_appfragment.specs.Headers.{Head, head_of, IsHeaderAt}
use Rattle.dnp_appfragment.specs.Seen.{head}
use Rattle.dnp_appfragment.specs.Table.{form_of}
use Rattle.dnp_appfragment.specs.Written.{common_head}
use Rattle.dnp_appfragment.proofs.RelativePut.{common_put}
use Rattle.dnp_appfragment.proofs.builder.Builder.common.Goals as goal
use Rattle.dnp_appfragment.proofs.builder.Builder.common.Goals.{After-new}

is : (c : After-new) → head c.new.result ≡ common_head c.args.time
is c = c.new.ensures.value ∙ ap (λ (o : List ℕ). head_of 51 1 (range.Count false 1) o) (c.deref.ensures.0 ∙ c.time_octets-octets.ensures)

pub header-requires : goal.header-requires
header-requires c =
    subst (λ (h : Head). IsHeaderAt (form_of c.args.self.now.function) (context_of c.args.self.now) h) (sym (is (goal.at.header-requires c).After-new))
    (common_put c.args.self.now.function (context_of c.args.self.now) c.args.time c.requires.response)

pub returns-clause-ok : goal.returns-clause-ok
returns-clause-ok c = rw (sym (is (goal.at.returns-clause-ok c).After-new)) c.header.ensures.ok

pub returns-clause-full : goal.returns-clause-full
returns-clause-full c = rw (sym (is (goal.at.returns-clause-full c).After-new)) c.header.ensures.full

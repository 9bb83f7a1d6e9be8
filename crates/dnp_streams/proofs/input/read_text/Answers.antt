use Rattle.std.proofs.Common.{◌≡◌, IfSome, ℕ, ◌+◌, List, Some, Option, take, [], ◌++◌}
use Rattle.std.specs.Io.Take.{take_remaining, take_inner, take_limit}
use Rattle.std.specs.declared.io.traits.Take.{Take}
use Rattle.dnp_streams.proofs.input.read_text.Goals as goal
use Rattle.dnp_streams.specs.declared.octets.TheConstants.{MAX_CHARACTERS}

-- What a reader of at most MAX_CHARACTERS and two octets appends to nothing.
appended : {R : Type 0} (remaining : R → Option (List ℕ)) (t : Take R) (reader : R) (start items octets : List ℕ) → start ≡ [] → take_inner t ≡ reader
    → take_limit t ≡ (MAX_CHARACTERS + 2) → IfSome (take_remaining remaining t) (λ xs. items ≡ start ++ xs) → remaining reader ≡ Some octets
    → items ≡ take (MAX_CHARACTERS + 2) octets
appended remaining t reader start items octets e i l h known = rw e at (rw known at (rw l at (rw i at h)))

pub returns : goal.returns
returns g c = record {
  exact = λ octets known.
      appended g.R.Read.remaining c.take.result c.args.reader c.new-text.result.items c.read_to_end.new.buf.items octets
      c.new-text.ensures.items c.take.ensures.inner c.take.ensures.limit (c.in_ok-read_to_end.ensures.bytes) known;
}

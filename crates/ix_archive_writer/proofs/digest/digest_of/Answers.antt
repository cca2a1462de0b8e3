use Rattle.std.proofs.Common.{◌≡◌, ◌∙◌, ◌+◌, ◌++◌, List, ℕ, ap, arith, drop, subst, sym, take}
use Rattle.std.proofs.Math.Seq.{take-add}
use Rattle.std.proofs.lemmas.List.{take_all}
use Rattle.sha2.specs.Hashers.{Holds256}
use Rattle.sha2.specs.Sha256.{sha256}
use Rattle.ix_archive_writer.proofs.digest.digest_of.Goals as goal

pub loop-start-preserved : goal.loop-start-preserved
loop-start-preserved g c = record {
  within = omega (arith, c.min-count.ensures, c.loop-start-test.true);
  hashed = λ bytes known.
      let start = c.loop-start.start in
      let count = c.min-count.result in
      let piece : c.as_slice.result.now ≡ take count (drop start bytes) = c.as_slice.ensures.value ∙ c.in_ok-append_at.ensures.told bytes known ∙ ap (λ (l : List ℕ). l ++ take count (drop start bytes)) c.clear.ensures.items in
      let whole : take start bytes ++ c.as_slice.result.now ≡ take (start + count) bytes = ap (λ (l : List ℕ). take start bytes ++ l) piece ∙ sym (take-add start count bytes) in
      subst (Holds256 c.update.new.self) whole (c.update.ensures (take start bytes) (c.loop-start.invariant.hashed bytes known));
}

pub returns-clause-told : goal.returns-clause-told
returns-clause-told g c = λ bytes known.
    let size = c.in_ok-size.ensures.told bytes known in
    let all : take c.loop-start.start bytes ≡ bytes = take_all c.loop-start.start bytes (omega (arith, size, c.loop-start-test.false)) in
    (size, c.finalize-digest.ensures (take c.loop-start.start bytes) (c.loop-start.invariant.hashed bytes known) ∙ ap sha256 all)

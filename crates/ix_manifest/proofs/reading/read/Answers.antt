-- The manifest that is read is the one whose text the bytes are.
use Rattle.std.proofs.Common.{◌≡◌, ◌∙◌, ap, rules, subst, sym}
use Rattle.std.proofs.lemmas.Result.{err_from_is_err_and}
use Rattle.ix_manifest.specs.ManifestText.{IsManifest, manifest_text}
use Rattle.ix_manifest.proofs.AsciiLemmas.{front_whole}
use Rattle.ix_manifest.proofs.reading.read.Goals as goal

pub returns-in_err-manifest-clause-exact : goal.returns-in_err-manifest-clause-exact
returns-in_err-manifest-clause-exact c = λ view lawful is.
    let front = front_whole c.args.bytes.now c.valid_front.result.now view lawful is c.valid_front.ensures in
    let p = err_from_is_err_and c.from_residual.result c.from_residual.ensures.1 in
    rw (p.1, p.2) (c.in_err-manifest.ensures view lawful front)

pub returns-then-ne-clause-exact : goal.returns-then-ne-clause-exact
returns-then-ne-clause-exact c = λ view lawful is.
    let front = front_whole c.args.bytes.now c.valid_front.result.now view lawful is c.valid_front.ensures in
    let same = c.in_ok-manifest.ensures view lawful front in
    let clash : c.as_bytes.result.now ≡ c.args.bytes.now = c.as_bytes.ensures.value ∙ c.in_ok-text.ensures ∙ ap manifest_text same ∙ sym is in
    let not : ⊥ = search rules in
    absurd not

pub returns-in-Some-clause-exact : goal.returns-in-Some-clause-exact
returns-in-Some-clause-exact c = λ view lawful is.
    let front = front_whole c.args.bytes.now c.valid_front.result.now view lawful is c.valid_front.ensures in
    let same = c.in_ok-manifest.ensures view lawful front in
    absurd (c.in-Some.ensures.unlawful (subst IsManifest (sym same) lawful))

pub returns-clause-exact : goal.returns-clause-exact
returns-clause-exact c = λ view lawful is.
    let front = front_whole c.args.bytes.now c.valid_front.result.now view lawful is c.valid_front.ensures in
    c.in_ok-manifest.ensures view lawful front

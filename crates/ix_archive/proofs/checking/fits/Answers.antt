-- Stop lists have the same terms exactly if their texts are equal.
use Rattle.std.proofs.Common.{◌≡◌, ◌∙◌, Bool, true, false, List, ℕ, Option, sym, subst, Bor, String, Global, string_bytes, map}
use Rattle.std.specs.Prelude.{IfSome, MatchBool}
use Rattle.std.specs.Option.{option_copied}
use Rattle.std.specs.String.{string_eq}
use lib.Pointwise.{pointwise}
use Rattle.ix_merge.proofs.StopTerms.{other_terms, same_terms}
use Rattle.ix_archive.proofs.checking.fits.Goals as goal

terms_told : (xs ys : List (String Global)) (one other : List (List ℕ)) (r : Bool) → r ≡ pointwise string_eq xs ys → map string_bytes xs ≡ one → map string_bytes ys ≡ other → MatchBool r (one ≡ other) (¬ (one ≡ other))
terms_told xs ys one other true is a b = sym a ∙ same_terms xs ys (sym is) ∙ b
terms_told xs ys one other false is a b = λ same. other_terms xs ys (sym is) (a ∙ same ∙ sym b)

pub returns-in-Some : goal.returns-in-Some
returns-in-Some c =
    let P : Option (Bor (List (List ℕ))) → Type 0 = λ given. MatchBool c.eq.result (IfSome (option_copied given) (λ terms. terms ≡ c.args.stop.now)) (¬ (IfSome (option_copied given) (λ terms. terms ≡ c.args.stop.now))) in
    subst P (sym c.in-Some.is) (terms_told c.terms.result.now c.terms-in-Some.result.now c.in-Some.given.now c.args.stop.now c.eq.result c.eq.ensures c.terms.ensures.value c.terms-in-Some.ensures.value)

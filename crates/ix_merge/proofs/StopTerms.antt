-- Sources with one stop set, or with two.
use Rattle.std.proofs.Common.{◌≡◌, List, [], ◌∷◌, true, false, map, All, Contains, refl, sym, ap, ◌∙◌, ◌&&◌, Global, String, string_bytes}
use Rattle.std.proofs.lemmas.List.Elements.{All-contains, All-cons}
use Rattle.std.proofs.lemmas.Slice.Eq.{slice_eq-Decides, bytes_eq-Decides}
use Rattle.std.specs.String.{string_eq}
use Rattle.std.specs.Prelude.{bytes_eq}
use lib.Pointwise.{pointwise}
use Rattle.ix_run.specs.Heads.{Heading}
use Rattle.ix_merge.specs.Refusals.{HaveOneStop, HaveTwoStops}
use Rattle.ix_merge.proofs.Laying.{contains_later, contains_now}

-- lists of texts are equal exactly where their bytes are
same_bytes : (xs ys : List (String Global)) → pointwise string_eq xs ys ≡ pointwise bytes_eq (map string_bytes xs) (map string_bytes ys)
same_bytes [] [] = refl
same_bytes [] (y ∷ ys) = refl
same_bytes (x ∷ xs) [] = refl
same_bytes (x ∷ xs) (y ∷ ys) = ap (λ b. string_eq x y && b) (same_bytes xs ys)

pub same_terms : (xs ys : List (String Global)) → pointwise string_eq xs ys ≡ true → map string_bytes xs ≡ map string_bytes ys
same_terms xs ys same = (slice_eq-Decides bytes_eq-Decides (map string_bytes xs) (map string_bytes ys) (pointwise string_eq xs ys) (same_bytes xs ys)).0 same

pub other_terms : (xs ys : List (String Global)) → pointwise string_eq xs ys ≡ false → map string_bytes xs ≡ map string_bytes ys → ⊥
other_terms xs ys other same = cc ((slice_eq-Decides bytes_eq-Decides (map string_bytes xs) (map string_bytes ys) (pointwise string_eq xs ys) (same_bytes xs ys)).1 same, other)

-- all have the stop terms of the first
pub one_stop : (h : Heading) (hs : List Heading) → All (λ g. g.stop ≡ h.stop) hs → HaveOneStop (h ∷ hs)
one_stop h hs same one other among among_too =
    let all = All-cons (λ (g : Heading). g.stop ≡ h.stop) h hs refl same in
    All-contains (λ (g : Heading). g.stop ≡ h.stop) (h ∷ hs) one all among ∙ sym (All-contains (λ (g : Heading). g.stop ≡ h.stop) (h ∷ hs) other all among_too)

-- one has other stop terms than the first
pub two_stops : (h : Heading) (hs : List Heading) (g : Heading) → Contains hs g → (g.stop ≡ h.stop → ⊥) → HaveTwoStops (h ∷ hs)
two_stops h hs g among differ = record { one = g; other = h; among = contains_later h hs g among; among_too = contains_now h hs; differ = differ }

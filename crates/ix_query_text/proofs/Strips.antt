-- What is left without the holes at both ends, in both forms of the definition.
use Rattle.std.proofs.Common.{◌≡◌, ◌≢◌, ℕ, zero, suc, List, [], ◌∷◌, ◌++◌, reverse, Some, None, refl, sym, ap, ◌∙◌, append-nil}
use Rattle.std.proofs.lemmas.List.{reverse-append, reverse-reverse}
use Rattle.ix_text.specs.TokenLists.{Entry}
use Rattle.ix_query_text.specs.Judgement.{drop_holes, strip_holes}
use Rattle.ix_query_text.specs.Stripping.{holes, IsStripped}

holes_push : (n : ℕ) → holes n ++ None ∷ [] ≡ None ∷ holes n
holes_push zero = refl
holes_push (suc n) = ap (λ es. None ∷ es) (holes_push n)

holes_back : (n : ℕ) → reverse (holes n) ≡ holes n
holes_back zero = refl
holes_back (suc n) = reverse-append (None ∷ []) (holes n) ∙ ap (λ es. es ++ None ∷ []) (holes_back n) ∙ holes_push n

dropped : (entries : List Entry) → (n : ℕ) × (entries ≡ holes n ++ drop_holes entries)
dropped [] = (0, refl)
dropped (None ∷ entries) = let rest = dropped entries in (suc rest.0, ap (λ es. None ∷ es) rest.1)
dropped (Some term ∷ entries) = (0, refl)

no_hole_first : (entries rest : List Entry) → drop_holes entries ≢ None ∷ rest
no_hole_first [] rest is = absurd (cc)
no_hole_first (None ∷ entries) rest is = no_hole_first entries rest is
no_hole_first (Some term ∷ entries) rest is = absurd (cc)

-- what a reversed list begins with
reverse_push : (front : List Entry) (entry : Entry) → reverse (front ++ entry ∷ []) ≡ entry ∷ reverse front
reverse_push front entry = reverse-append front (entry ∷ [])

pub strip_is : (entries : List Entry) → IsStripped entries (strip_holes entries)
strip_is entries =
    let d = dropped entries in
    let e = dropped (reverse (drop_holes entries)) in
    let inner : drop_holes entries ≡ strip_holes entries ++ holes e.0 =
    sym (reverse-reverse (drop_holes entries)) ∙ ap reverse e.1
    ∙ reverse-append (holes e.0) (drop_holes (reverse (drop_holes entries)))
    ∙ ap (λ es. strip_holes entries ++ es) (holes_back e.0) in
    record {
      before = d.0;
      behind = e.0;
      whole = d.1 ∙ ap (λ es. holes d.0 ++ es) inner;
      first = λ rest is. no_hole_first entries (rest ++ holes e.0) (inner ∙ ap (λ es. es ++ holes e.0) is);
      last = λ front is. no_hole_first (reverse (drop_holes entries)) (reverse front)
          (sym (reverse-reverse (drop_holes (reverse (drop_holes entries)))) ∙ ap reverse is ∙ reverse_push front None);
    }

drop_more : (n : ℕ) (entries : List Entry) → drop_holes (holes n ++ entries) ≡ drop_holes entries
drop_more zero entries = refl
drop_more (suc n) entries = drop_more n entries

drop_kept : (entries : List Entry) → ((rest : List Entry) → entries ≢ None ∷ rest) → drop_holes entries ≡ entries
drop_kept [] first = refl
drop_kept (None ∷ entries) first = absurd (first entries refl)
drop_kept (Some term ∷ entries) first = refl

-- the front is no hole, so what stands behind the list stays behind it
drop_front : (left : List Entry) (n : ℕ) → ((rest : List Entry) → left ≢ None ∷ rest) → (m : ℕ) × (drop_holes (left ++ holes n) ≡ left ++ holes m)
drop_front [] n first = (0, ap drop_holes (sym (append-nil (holes n))) ∙ drop_more n [])
drop_front (None ∷ left) n first = absurd (first left refl)
drop_front (Some term ∷ left) n first = (n, refl)

pub strip_only : (entries left : List Entry) → IsStripped entries left → left ≡ strip_holes entries
strip_only entries left is =
    let f = drop_front left is.behind is.first in
    let inner : drop_holes entries ≡ left ++ holes f.0 = ap drop_holes is.whole ∙ drop_more is.before (left ++ holes is.behind) ∙ f.1 in
    let back : reverse (drop_holes entries) ≡ holes f.0 ++ reverse left = ap reverse inner ∙ reverse-append left (holes f.0) ∙ ap (λ es. es ++ reverse left) (holes_back f.0) in
    let kept : drop_holes (reverse left) ≡ reverse left =
    drop_kept (reverse left) (λ rest begins. is.last (reverse rest) (sym (reverse-reverse left) ∙ ap reverse begins ∙ reverse-append (None ∷ []) rest)) in
    sym (ap reverse (ap drop_holes back ∙ drop_more f.0 (reverse left) ∙ kept) ∙ reverse-reverse left)

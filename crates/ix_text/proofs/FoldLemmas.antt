-- Case folding of text that is not decomposed first: where no iota is below a letter, it comes to the same.
use Rattle.std.proofs.Common.{◌≡◌, ℕ, ◌+◌, ◌-◌, ◌/◌, ◌%◌, ◌<◌, ◌⊎◌, inl, inr, Bool, true, false, not, ◌&&◌, ◌||◌, ◌==◌, List, [], ◌∷◌, ◌++◌, flat_map, refl, sym, ap, ap₂, ◌∙◌, arith, eqb-true}
use Rattle.std.proofs.lemmas.Bool.{cases_Bool, cases_eq, and_parts, and_from, not-true, not_from_false, cond-false}
use Rattle.std.proofs.lemmas.Grind.{flat_map-append}
use Rattle.std.proofs.lemmas.List.{append-nil}
use Rattle.std.specs.List.{list_all}
use Rattle.ucd_case.specs.CaseFolding.{full_folding, full_fold, or_itself as or_unfolded}
use Rattle.ucd_normal.specs.CanonicalCombiningClass.{canonical_combining_class as ccc}
use Rattle.ucd_normal.specs.Decomposition.{or_itself, canonical_decomposition}
use Rattle.ucd_normal.proofs.CompositionLemmas.{is_empty}
use Rattle.unicode_normalization.specs.Decompose.{decompose}
use Rattle.unicode_normalization.specs.Forms.{Nfd, nfd, nfc, normalize, decomposed}
use Rattle.unicode_normalization.specs.Hangul.{is_among, is_syllable, decompose_hangul}
use Rattle.unicode_normalization.specs.Order.{is_reorderable, sink, canonical_order}
use Rattle.unicode_normalization.proofs.ComposeLemmas.{list_all-append, flat_map-final}
use Rattle.unicode_normalization.proofs.DecomposeLemmas.{is_empty-true, or_itself-some, IsFull-decompose, decompose-final, decompose-syllable}
use Rattle.unicode_normalization.proofs.FormsLemmas.{nfc_from_nfd}
use Rattle.unicode_normalization.proofs.HangulLemmas.{is_among-true, is_among_from, is_syllable-true, decompose_hangul-two, decompose_hangul-three}
use Rattle.unicode_normalization.proofs.OrderLemmas.{is_reorderable-true, sink-past, sink-stays, sink-nil, sink_all, canonical_order-append, canonical_order-cons, canonical_order-nil, canonical_order-exchange, list_all-canonical_order}
use Rattle.unicode_normalization.proofs.TableFacts.{is_final}
use Rattle.caseless.specs.Caseless.{default_case_fold}
use Rattle.caseless.proofs.CaselessLemmas.{default_case_fold-nil, default_case_fold-cons, default_case_fold-append}
use Rattle.ix_text.specs.IotaSubscript.{may_hold_iota}
use Rattle.ix_text.specs.Terms.{folded}
use Rattle.ix_text.proofs.FoldTables.{folding_agrees, folding_starter, folding_no_hangul, is_no_iota, parts_no_iota}

unfoldable pub parts : ℕ → List ℕ
parts = decompose Nfd

-- ---- characters that fold to themselves

unfolded : (c : ℕ) → is_empty (full_folding c) ≡ true → full_fold c ≡ c ∷ []
unfolded c none = ap (or_unfolded c) (is_empty-true (full_folding c) none)

unfoldable pub is_jamo : ℕ → Bool
is_jamo = is_among 0x1100 0x100

pub is_jamo-below : (c : ℕ) → is_jamo c ≡ true → c < 0x1200
unfolding is_jamo
is_jamo-below c jamo = (is_among-true 0x1100 0x100 c jamo).1

true_of_or : (a b : Bool) → (a || b) ≡ true → (a ≡ true) ⊎ (b ≡ true)
true_of_or true b h = inl refl
true_of_or false b h = inr h

jamo_unfolded : (c : ℕ) → is_jamo c ≡ true → full_fold c ≡ c ∷ []
unfolding is_jamo
jamo_unfolded c jamo =
    elim (cases_Bool (is_empty (full_folding c))) [
      | inl none ↦ unfolded c none
      | inr some ↦
          let clash = not-true _ (and_parts (not (is_among 0x1100 0x100 c)) (not (is_syllable c)) (folding_no_hangul c some)).0 in cc
    ]

syllable_unfolded : (c : ℕ) → is_syllable c ≡ true → full_fold c ≡ c ∷ []
syllable_unfolded c syllable =
    elim (cases_Bool (is_empty (full_folding c))) [
      | inl none ↦ unfolded c none
      | inr some ↦
          let clash = not-true _ (and_parts (not (is_among 0x1100 0x100 c)) (not (is_syllable c)) (folding_no_hangul c some)).1 in cc
    ]

jamos_unfolded : (cs : List ℕ) → list_all is_jamo cs ≡ true → default_case_fold cs ≡ cs
jamos_unfolded [] all = default_case_fold-nil
jamos_unfolded (c ∷ cs) all =
    let both = and_parts (is_jamo c) (list_all is_jamo cs) all in
    default_case_fold-cons c cs ∙ ap₂ ◌++◌ (jamo_unfolded c both.0) (jamos_unfolded cs both.1)

hangul_jamos : (c : ℕ) → is_syllable c ≡ true → list_all is_jamo (decompose_hangul c) ≡ true
unfolding is_jamo
hangul_jamos c syllable =
    let range = is_syllable-true c syllable in
    let l = is_among_from 0x1100 0x100 (0x1100 + (c - 0xAC00) / 588) (omega arith) (omega arith) in
    let v = is_among_from 0x1100 0x100 (0x1161 + (c - 0xAC00) % 588 / 28) (omega arith) (omega arith) in
    let t = is_among_from 0x1100 0x100 (0x11A7 + (c - 0xAC00) % 28) (omega arith) (omega arith) in
    elim (cases_eq ((c - 0xAC00) % 28) 0) [
      | inl two ↦ ap (list_all (is_among 0x1100 0x100)) (decompose_hangul-two c two) ∙ and_from _ _ l (and_from _ _ v refl)
      | inr three ↦ ap (list_all (is_among 0x1100 0x100)) (decompose_hangul-three c three) ∙ and_from _ _ l (and_from _ _ v (and_from _ _ t refl))
    ]

-- ---- one character: the folding of its parts has the parts of its folding

parts_final : (c : ℕ) → list_all (is_final Nfd) (parts c) ≡ true
unfolding parts
parts_final c = (IsFull-decompose Nfd c).final

parts_of_parts : (c : ℕ) → flat_map parts (parts c) ≡ parts c
unfolding parts
parts_of_parts c = flat_map-final (decompose Nfd) (is_final Nfd) (decompose-final Nfd) (decompose Nfd c) (parts_final c)

pub parts-other : (c : ℕ) → is_syllable c ≡ false → parts c ≡ or_itself c (canonical_decomposition c)
unfolding parts decompose
parts-other c other = cond-false _ _ _ other

pub parts_jamos : (c : ℕ) → is_syllable c ≡ true → list_all is_jamo (parts c) ≡ true
unfolding parts
parts_jamos c syllable = ap (list_all is_jamo) (decompose-syllable Nfd c syllable) ∙ hangul_jamos c syllable

table_agrees : (c : ℕ) → is_empty (canonical_decomposition c) ≡ false → flat_map parts (default_case_fold (canonical_decomposition c)) ≡ flat_map parts (full_fold c)
unfolding parts decompose default_case_fold
table_agrees c some = folding_agrees c some

one_agrees : (c : ℕ) → flat_map parts (default_case_fold (parts c)) ≡ flat_map parts (full_fold c)
one_agrees c =
    elim (cases_Bool (is_syllable c)) [
      | inl syllable ↦
          let jamos : default_case_fold (parts c) ≡ parts c = jamos_unfolded (parts c) (parts_jamos c syllable) in
          ap (flat_map parts) jamos ∙ parts_of_parts c ∙ sym (ap (flat_map parts) (syllable_unfolded c syllable) ∙ append-nil (parts c))
      | inr other ↦
          elim (cases_Bool (is_empty (canonical_decomposition c))) [
            | inl none ↦
                let alone : parts c ≡ c ∷ [] = parts-other c other ∙ ap (or_itself c) (is_empty-true _ none) in
                ap (λ l. flat_map parts (default_case_fold l)) alone
                ∙ ap (flat_map parts) (default_case_fold-cons c [] ∙ ap (λ l. full_fold c ++ l) default_case_fold-nil ∙ append-nil (full_fold c))
            | inr some ↦
                ap (λ l. flat_map parts (default_case_fold l)) (parts-other c other ∙ or_itself-some c (canonical_decomposition c) some) ∙ table_agrees c some
          ]
    ]

-- ---- the parts of a text are put in order from the back

nfd-append : (xs ys : List ℕ) → nfd (xs ++ ys) ≡ sink_all (flat_map parts xs) (nfd ys)
unfolding parts normalize decomposed
nfd-append xs ys =
    ap canonical_order (flat_map-append (decompose Nfd) xs ys) ∙ canonical_order-append (flat_map (decompose Nfd) xs) (flat_map (decompose Nfd) ys)

nfd-cons_fold : (c : ℕ) (cs : List ℕ) → nfd (default_case_fold (c ∷ cs)) ≡ sink_all (flat_map parts (full_fold c)) (nfd (default_case_fold cs))
nfd-cons_fold c cs = ap nfd (default_case_fold-cons c cs) ∙ nfd-append (full_fold c) (default_case_fold cs)

-- each character may be taken apart before it is folded
folding_parts : (cs : List ℕ) → nfd (default_case_fold (flat_map parts cs)) ≡ nfd (default_case_fold cs)
folding_parts [] = refl
folding_parts (c ∷ cs) =
    ap nfd (default_case_fold-append (parts c) (flat_map parts cs)) ∙ nfd-append (default_case_fold (parts c)) (default_case_fold (flat_map parts cs))
    ∙ ap₂ sink_all (one_agrees c) (folding_parts cs) ∙ sym (nfd-cons_fold c cs)

-- ---- and be put in order

keeps_order : ℕ → Bool
keeps_order c = is_final Nfd c && is_no_iota c

mark_unfolded : (c : ℕ) → is_no_iota c ≡ true → 0 < ccc c → full_fold c ≡ c ∷ []
mark_unfolded c no_iota mark =
    elim (cases_Bool (is_empty (full_folding c))) [
      | inl none ↦ unfolded c none
      | inr some ↦
          elim (true_of_or (ccc c == 0) (c == 0x345) (folding_starter c some)) [
            | inl starter ↦ absurd (let e = eqb-true (ccc c) 0 starter in omega arith)
            | inr iota ↦ let clash = not-true _ no_iota in cc
          ]
    ]

mark_alone : (c : ℕ) → keeps_order c ≡ true → 0 < ccc c → flat_map parts (full_fold c) ≡ c ∷ []
unfolding keeps_order parts
mark_alone c keeps mark =
    let both = and_parts (is_final Nfd c) (is_no_iota c) keeps in
    ap (flat_map (decompose Nfd)) (mark_unfolded c both.1 mark) ∙ append-nil (decompose Nfd c) ∙ decompose-final Nfd c both.0

exchange : (c d : ℕ) (zs : List ℕ) → is_reorderable c d ≡ true → sink_all (d ∷ []) (sink_all (c ∷ []) (canonical_order zs)) ≡ sink_all (c ∷ []) (sink_all (d ∷ []) (canonical_order zs))
exchange c d zs h =
    let both : (x y : ℕ) → sink_all (x ∷ []) (sink_all (y ∷ []) (canonical_order zs)) ≡ canonical_order (x ∷ y ∷ zs) = λ x y.
    ap (sink_all (x ∷ [])) (sym (canonical_order-append (y ∷ []) zs)) ∙ sym (canonical_order-append (x ∷ []) (y ∷ zs)) in
    both d c ∙ sym (canonical_order-exchange [] c d zs h) ∙ sym (both c d)

nfd_is_ordered : (cs : List ℕ) → nfd cs ≡ canonical_order (flat_map parts cs)
unfolding parts normalize decomposed
nfd_is_ordered cs = refl

folding_sink : (c : ℕ) (cs : List ℕ) → keeps_order c ≡ true → list_all keeps_order cs ≡ true → nfd (default_case_fold (sink c cs)) ≡ nfd (default_case_fold (c ∷ cs))
folding_sink c [] keeps all = ap (λ l. nfd (default_case_fold l)) (sink-nil c)
folding_sink c (d ∷ ds) keeps all =
    let both = and_parts (keeps_order d) (list_all keeps_order ds) all in
    elim (cases_Bool (is_reorderable c d)) [
      | inr stays ↦ ap (λ l. nfd (default_case_fold l)) (sink-stays c d ds stays)
      | inl past ↦
          let marks = is_reorderable-true c d past in
          let d_alone = mark_alone d both.0 marks.0 in
          let c_alone = mark_alone c keeps (omega arith) in
          let rest = nfd_is_ordered (default_case_fold ds) in
          ap (λ l. nfd (default_case_fold l)) (sink-past c d ds past) ∙ nfd-cons_fold d (sink c ds)
          ∙ ap₂ sink_all d_alone (folding_sink c ds keeps both.1 ∙ nfd-cons_fold c ds ∙ ap₂ sink_all c_alone rest)
          ∙ exchange c d (flat_map parts (default_case_fold ds)) past
          ∙ sym (nfd-cons_fold c (d ∷ ds) ∙ ap₂ sink_all c_alone (nfd-cons_fold d ds ∙ ap₂ sink_all d_alone rest))
    ]

folding_order : (cs : List ℕ) → list_all keeps_order cs ≡ true → nfd (default_case_fold (canonical_order cs)) ≡ nfd (default_case_fold cs)
folding_order [] all = ap (λ l. nfd (default_case_fold l)) canonical_order-nil
folding_order (c ∷ cs) all =
    let both = and_parts (keeps_order c) (list_all keeps_order cs) all in
    ap (λ l. nfd (default_case_fold l)) (canonical_order-cons c cs)
    ∙ folding_sink c (canonical_order cs) both.0 (list_all-canonical_order keeps_order cs both.1)
    ∙ nfd-cons_fold c (canonical_order cs) ∙ ap (sink_all (flat_map parts (full_fold c))) (folding_order cs both.1) ∙ sym (nfd-cons_fold c cs)

-- ---- a text without an iota below

list_all-and : (p q : ℕ → Bool) (cs : List ℕ) → list_all p cs ≡ true → list_all q cs ≡ true → list_all (λ c. p c && q c) cs ≡ true
list_all-and p q [] first second = refl
list_all-and p q (c ∷ cs) first second =
    let one = and_parts (p c) (list_all p cs) first in
    let two = and_parts (q c) (list_all q cs) second in
    and_from _ _ (and_from _ _ one.0 two.0) (list_all-and p q cs one.1 two.1)

one_jamo_no_iota : (c : ℕ) → is_jamo c ≡ true → is_no_iota c ≡ true
unfolding is_jamo
one_jamo_no_iota c jamo =
    elim (cases_Bool (c == 0x345)) [
      | inl iota ↦ let clash = sym jamo ∙ ap (is_among 0x1100 0x100) (eqb-true c 0x345 iota) in cc
      | inr other ↦ not_from_false _ other
    ]

jamo_no_iota : (cs : List ℕ) → list_all is_jamo cs ≡ true → list_all is_no_iota cs ≡ true
jamo_no_iota [] all = refl
jamo_no_iota (c ∷ cs) all =
    let both = and_parts (is_jamo c) (list_all is_jamo cs) all in and_from _ _ (one_jamo_no_iota c both.0) (jamo_no_iota cs both.1)

no_iota_itself : (c : ℕ) → may_hold_iota c ≡ false → is_no_iota c ≡ true
no_iota_itself c none =
    elim (cases_Bool (c == 0x345)) [
      | inl iota ↦ let clash = sym none ∙ ap may_hold_iota (eqb-true c 0x345 iota) in cc
      | inr other ↦ not_from_false _ other
    ]

no_iota_in_parts : (c : ℕ) → may_hold_iota c ≡ false → list_all is_no_iota (parts c) ≡ true
no_iota_in_parts c none =
    elim (cases_Bool (is_syllable c)) [
      | inl syllable ↦ jamo_no_iota (parts c) (parts_jamos c syllable)
      | inr other ↦
          elim (cases_Bool (is_empty (canonical_decomposition c))) [
            | inl alone ↦
                ap (list_all is_no_iota) (parts-other c other ∙ ap (or_itself c) (is_empty-true _ alone)) ∙ and_from _ _ (no_iota_itself c none) refl
            | inr some ↦
                let held = ap (λ b. b || list_all is_no_iota (canonical_decomposition c)) (sym none) ∙ parts_no_iota c some in
                ap (list_all is_no_iota) (parts-other c other ∙ or_itself-some c (canonical_decomposition c) some) ∙ held
          ]
    ]

parts_keep_order : (cs : List ℕ) → list_all (λ c. not (may_hold_iota c)) cs ≡ true → list_all keeps_order (flat_map parts cs) ≡ true
unfolding keeps_order
parts_keep_order [] all = refl
parts_keep_order (c ∷ cs) all =
    let both = and_parts (not (may_hold_iota c)) (list_all (λ x. not (may_hold_iota x)) cs) all in
    list_all-append keeps_order (parts c) (flat_map parts cs)
    (list_all-and (is_final Nfd) is_no_iota (parts c) (parts_final c) (no_iota_in_parts c (not-true _ both.0))) (parts_keep_order cs both.1)

-- Such a text need not be decomposed before it is folded.
pub folded-at_once : (cs : List ℕ) → list_all (λ c. not (may_hold_iota c)) cs ≡ true → folded cs ≡ nfc (default_case_fold cs)
unfolding folded
folded-at_once cs all =
    nfc_from_nfd (default_case_fold (nfd cs)) (default_case_fold cs)
    (ap (λ l. nfd (default_case_fold l)) (nfd_is_ordered cs) ∙ folding_order (flat_map parts cs) (parts_keep_order cs all) ∙ folding_parts cs)

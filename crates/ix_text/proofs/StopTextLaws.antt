-- A text has one stop set or one fault, and never both.
use Rattle.std.proofs.Common.{◌≡◌, ℕ, suc, ◌+◌, ◌^◌, ◌<◌, ◌≤◌, ◌↔◌, ◌⊎◌, inl, inr, List, [], ◌∷◌, ◌++◌, length, All, Contains, Ordering, Less, Equal, Greater, refl, sym, ap, subst, ◌∙◌, arith, length-append}
use Rattle.std.proofs.lemmas.Bool.{cases_Bool, cases_lt}
use Rattle.std.proofs.lemmas.Cmp.{nat_list_cmp_total}
use Rattle.std.proofs.lemmas.List.Elements.{All-nil, All-cons, All-head, All-tail}
use Rattle.std.specs.List.{AllByRecursion}
use Rattle.std.specs.List.Sorted.{IsStrictlySortedBy}
use Rattle.std.specs.Cmp.Lexicographic.{slice_cmp}
use Rattle.std.specs.Ordering.{nat_cmp, ordering_reverse}
use Rattle.unicode_segmentation.specs.Word.{words}
use Rattle.ix_text.specs.declared.stop.StopError.{StopError}
use Rattle.ix_text.specs.declared.stop.StopError.TheVariants.{NotOneWord, LongWord, Memory, TooLarge}
use Rattle.ix_text.specs.ByteOrder.{IsAscending}
use Rattle.ix_text.specs.StopFaults.{IsStopLine, IsStopLineFault, HasStopLineFault, IsStopFault}
use Rattle.ix_text.specs.StopText.{IsCutAtLineFeeds, stop_terms_of, IsStopText}
use Rattle.ix_text.specs.Terms.{term_of_word}
use Rattle.ix_text.specs.TokenLists.{is_term_size}
use Rattle.ix_text.proofs.AscendingLists.{contains_later, contains_cases, one_ascending}
use Rattle.ix_text.proofs.StopSetLemmas.{same_from_Equal}
use Rattle.ix_text.proofs.StopTextLemmas.{words-nil, lines_of, lines_of-nil, cut_is, cut_at_line_feeds, stop_terms_of-nil, stop_terms_of-empty_line}

abbrev cmp : List ℕ → List ℕ → Ordering
cmp = slice_cmp nat_cmp

-- ---- the lines of a stop text are those of its one cut

-- a cut into no line is one of the empty text, which has one empty line
lines_read : (text : List ℕ) (lines : List (List ℕ)) → IsCutAtLineFeeds text lines → All IsStopLine lines → All IsStopLine (lines_of text) × (stop_terms_of (lines_of text) ≡ stop_terms_of lines)
lines_read text [] cut read =
    let one : lines_of text ≡ [] ∷ [] = ap lines_of cut.joined ∙ lines_of-nil in
    (subst (All IsStopLine) (sym one) (All-cons IsStopLine [] [] (inl refl) read), ap stop_terms_of one ∙ stop_terms_of-empty_line [] refl ∙ sym stop_terms_of-nil)
lines_read text (line ∷ lines) cut read =
    let one = cut_is text line lines cut in (subst (All IsStopLine) (sym one) read, ap stop_terms_of one)

pub one_stop_set : (text : List ℕ) (one other : List (List ℕ)) → IsStopText text one → IsStopText text other → one ≡ other
one_stop_set text one other first second =
    let lines = lines_read text first.lines first.cut first.read in
    let others = lines_read text second.lines second.cut second.read in
    let terms = sym lines.1 ∙ others.1 in
    one_ascending nat_list_cmp_total one other first.ascending second.ascending (λ t. (
      λ has. (second.terms t).1 (subst (λ (l : List (List ℕ)). Contains l t) terms ((first.terms t).0 has)),
      λ has. (first.terms t).1 (subst (λ (l : List (List ℕ)). Contains l t) (sym terms) ((second.terms t).0 has)),
    ))

-- ---- faults

-- a line with a fault is none that a stop text may have
fault_excludes : (line : List ℕ) (number : ℕ) (fault : StopError) → IsStopLineFault line number fault → ¬ (IsStopLine line)
fault_excludes line number (NotOneWord at) (same, some, count) (inl empty) = some empty
fault_excludes line number (NotOneWord at) (same, some, count) (inr word) = count (ap length word.only)
fault_excludes line number (LongWord at) (same, (word, only, size)) (inl empty) =
    let clash = sym words-nil ∙ ap words (sym empty) ∙ only in cc
fault_excludes line number (LongWord at) (same, (word, only, size)) (inr stop) =
    let both : word ∷ [] ≡ stop.word ∷ [] = sym only ∙ stop.only in
    let one : word ≡ stop.word = cc in
    let clash = sym size ∙ ap (λ w. is_term_size (term_of_word w)) one ∙ stop.size in cc
fault_excludes line number Memory fault read = fault
fault_excludes line number TooLarge fault read = fault

cut_of_some : (text : List ℕ) (lines : List (List ℕ)) → 0 < length lines → IsCutAtLineFeeds text lines → lines_of text ≡ lines
cut_of_some text [] some cut = absurd (omega arith)
cut_of_some text (line ∷ lines) some cut = cut_is text line lines cut

cut_of_fault : (text : List ℕ) (fault : StopError) (f : HasStopLineFault text fault) → lines_of text ≡ f.before ++ f.line ∷ f.after
cut_of_fault text fault f = cut_of_some text (f.before ++ f.line ∷ f.after) (omega (arith, length-append f.before (f.line ∷ f.after))) f.cut

All-middle : (P : List ℕ → Type 0) (xs : List (List ℕ)) (y : List ℕ) (ys : List (List ℕ)) → All P (xs ++ y ∷ ys) → P y
All-middle P [] y ys all = All-head P y ys all
All-middle P (x ∷ xs) y ys all = All-middle P xs y ys (All-tail P x (xs ++ y ∷ ys) all)

line_fault_refuses : (text : List ℕ) (stop : List (List ℕ)) (fault : StopError) → HasStopLineFault text fault → ¬ (IsStopText text stop)
line_fault_refuses text stop fault f read =
    let lines = (lines_read text read.lines read.cut read.read).0 in
    fault_excludes f.line (length f.before + 1) fault f.fault_of_line
    (All-middle IsStopLine f.before f.line f.after (subst (All IsStopLine) (cut_of_fault text fault f) lines))

-- a text that has a fault has no stop set
pub refused : (text : List ℕ) (stop : List (List ℕ)) (fault : StopError) → IsStopFault text fault → ¬ (IsStopText text stop)
refused text stop (NotOneWord at) f read = line_fault_refuses text stop (NotOneWord at) f read
refused text stop (LongWord at) f read = line_fault_refuses text stop (LongWord at) f read
refused text stop Memory f read = f
refused text stop TooLarge f read = let short : length text ≤ 2 ^ 28 = read.short in omega arith

same_line_fault : (line : List ℕ) (number : ℕ) (one other : StopError) → IsStopLineFault line number one → IsStopLineFault line number other → one ≡ other
same_line_fault line number (NotOneWord a) (NotOneWord b) f g = ap NotOneWord (f.0 ∙ sym g.0)
same_line_fault line number (NotOneWord a) (LongWord b) f (same, (word, only, size)) = absurd (f.2 (ap length only))
same_line_fault line number (NotOneWord a) Memory f g = absurd g
same_line_fault line number (NotOneWord a) TooLarge f g = absurd g
same_line_fault line number (LongWord a) (NotOneWord b) (same, (word, only, size)) g = absurd (g.2 (ap length only))
same_line_fault line number (LongWord a) (LongWord b) f g = ap LongWord (f.0 ∙ sym g.0)
same_line_fault line number (LongWord a) Memory f g = absurd g
same_line_fault line number (LongWord a) TooLarge f g = absurd g
same_line_fault line number Memory other f g = absurd f
same_line_fault line number TooLarge other f g = absurd f

-- where two lists are cut at their first lines that cannot be read, they are cut at one place
same_place : (xs ys : List (List ℕ)) (a b : List ℕ) (cs bs : List (List ℕ)) → All IsStopLine xs → All IsStopLine ys → ¬ (IsStopLine a) → ¬ (IsStopLine b)
    → xs ++ a ∷ cs ≡ ys ++ b ∷ bs → (length xs ≡ length ys) × (a ≡ b)
same_place [] [] a b cs bs all_x all_y bad_a bad_b e = (refl, cc)
same_place [] (y ∷ ys) a b cs bs all_x all_y bad_a bad_b e =
    let first : a ≡ y = cc in absurd (bad_a (subst IsStopLine (sym first) (All-head IsStopLine y ys all_y)))
same_place (x ∷ xs) [] a b cs bs all_x all_y bad_a bad_b e =
    let first : x ≡ b = cc in absurd (bad_b (subst IsStopLine first (All-head IsStopLine x xs all_x)))
same_place (x ∷ xs) (y ∷ ys) a b cs bs all_x all_y bad_a bad_b e =
    let rest : xs ++ a ∷ cs ≡ ys ++ b ∷ bs = cc in
    let place = same_place xs ys a b cs bs (All-tail IsStopLine x xs all_x) (All-tail IsStopLine y ys all_y) bad_a bad_b rest in
    (ap suc place.0, place.1)

same_text_fault : (text : List ℕ) (one other : StopError) → HasStopLineFault text one → HasStopLineFault text other → one ≡ other
same_text_fault text one other f g =
    let place =
    same_place f.before g.before f.line g.line f.after g.after f.earlier g.earlier
    (fault_excludes f.line (length f.before + 1) one f.fault_of_line) (fault_excludes g.line (length g.before + 1) other g.fault_of_line)
    (sym (cut_of_fault text one f) ∙ cut_of_fault text other g) in
    same_line_fault f.line (length f.before + 1) one other f.fault_of_line
    (subst (λ (l : List ℕ). IsStopLineFault l (length f.before + 1) other) (sym place.1)
    (subst (λ (n : ℕ). IsStopLineFault g.line (n + 1) other) (sym place.0) g.fault_of_line))

-- a text has one fault at most
pub one_fault : (text : List ℕ) (one other : StopError) → IsStopFault text one → IsStopFault text other → one ≡ other
one_fault text (NotOneWord a) (NotOneWord b) f g = same_text_fault text (NotOneWord a) (NotOneWord b) f g
one_fault text (NotOneWord a) (LongWord b) f g = same_text_fault text (NotOneWord a) (LongWord b) f g
one_fault text (NotOneWord a) Memory f g = absurd g
one_fault text (NotOneWord a) TooLarge f g = let short : length text ≤ 2 ^ 28 = f.short in absurd (omega arith)
one_fault text (LongWord a) (NotOneWord b) f g = same_text_fault text (LongWord a) (NotOneWord b) f g
one_fault text (LongWord a) (LongWord b) f g = same_text_fault text (LongWord a) (LongWord b) f g
one_fault text (LongWord a) Memory f g = absurd g
one_fault text (LongWord a) TooLarge f g = let short : length text ≤ 2 ^ 28 = f.short in absurd (omega arith)
one_fault text Memory other f g = absurd f
one_fault text TooLarge (NotOneWord b) f g = let short : length text ≤ 2 ^ 28 = g.short in absurd (omega arith)
one_fault text TooLarge (LongWord b) f g = let short : length text ≤ 2 ^ 28 = g.short in absurd (omega arith)
one_fault text TooLarge Memory f g = absurd g
one_fault text TooLarge TooLarge f g = refl

-- ---- each text has the one or the other

-- a text stands in an ascending list
put_by : Ordering → List ℕ → List ℕ → List (List ℕ) → List (List ℕ) → List (List ℕ)
put_by Less x y ys rest = x ∷ y ∷ ys
put_by Equal x y ys rest = y ∷ ys
put_by Greater x y ys rest = y ∷ rest

put : List ℕ → List (List ℕ) → List (List ℕ)
put x [] = x ∷ []
put x (y ∷ ys) = put_by (cmp x y) x y ys (put x ys)

below_by : (o : Ordering) (w x y : List ℕ) (ys rest : List (List ℕ)) → cmp w x ≡ Less → AllByRecursion (λ z. cmp w z ≡ Less) (y ∷ ys) → AllByRecursion (λ z. cmp w z ≡ Less) rest → AllByRecursion (λ z. cmp w z ≡ Less) (put_by o x y ys rest)
unfolding put_by
below_by Less w x y ys rest less all later = (less, all)
below_by Equal w x y ys rest less all later = all
below_by Greater w x y ys rest less all later = (all.0, later)

below-put : (w x : List ℕ) (ys : List (List ℕ)) → cmp w x ≡ Less → AllByRecursion (λ z. cmp w z ≡ Less) ys → AllByRecursion (λ z. cmp w z ≡ Less) (put x ys)
unfolding put
below-put w x [] less all = (less, tt)
below-put w x (y ∷ ys) less all = below_by (cmp x y) w x y ys (put x ys) less all (below-put w x ys less all.1)

below_more : (x y : List ℕ) (ys : List (List ℕ)) → cmp x y ≡ Less → AllByRecursion (λ z. cmp y z ≡ Less) ys → AllByRecursion (λ z. cmp x z ≡ Less) ys
below_more x y [] less all = tt
below_more x y (z ∷ ys) less all = (nat_list_cmp_total.trans x y z less all.0, below_more x y ys less all.1)

ascending_by : (o : Ordering) (x y : List ℕ) (ys rest : List (List ℕ)) → cmp x y ≡ o → IsAscending (y ∷ ys) → IsAscending rest → (cmp y x ≡ Less → AllByRecursion (λ z. cmp y z ≡ Less) rest) → IsAscending (put_by o x y ys rest)
unfolding put_by IsStrictlySortedBy
ascending_by Less x y ys rest is up later above = ((is, below_more x y ys is up.0), up)
ascending_by Equal x y ys rest is up later above = up
ascending_by Greater x y ys rest is up later above = (above (nat_list_cmp_total.antisymm y x ∙ ap ordering_reverse is), later)

ascending-put : (x : List ℕ) (ys : List (List ℕ)) → IsAscending ys → IsAscending (put x ys)
unfolding put IsStrictlySortedBy
ascending-put x [] up = (tt, tt)
ascending-put x (y ∷ ys) up = ascending_by (cmp x y) x y ys (put x ys) refl up (ascending-put x ys up.1) (λ less. below-put y x ys less up.0)

contains_by : (o : Ordering) (x y : List ℕ) (ys rest : List (List ℕ)) (t : List ℕ) → cmp x y ≡ o → Contains rest t ↔ Contains (x ∷ ys) t → Contains (put_by o x y ys rest) t ↔ Contains (x ∷ y ∷ ys) t
unfolding put_by
contains_by Less x y ys rest t is same = (λ has. has, λ has. has)
contains_by Equal x y ys rest t is same =
    let one : x ≡ y = same_from_Equal x y is in (
      λ has. contains_later x (y ∷ ys) t has,
      λ has. elim (contains_cases x (y ∷ ys) t has) [ inl first ↦ (0, omega arith, sym one ∙ first) | inr later ↦ later ],
    )
contains_by Greater x y ys rest t is same = (
  λ has.
      elim (contains_cases y rest t has) [
        | inl first ↦ contains_later x (y ∷ ys) t (0, omega arith, first)
        | inr later ↦ elim (contains_cases x ys t (same.0 later)) [ inl first ↦ (0, omega arith, first) | inr more ↦ contains_later x (y ∷ ys) t (contains_later y ys t more) ]
      ],
  λ has.
      elim (contains_cases x (y ∷ ys) t has) [
        | inl first ↦ contains_later y rest t (same.1 (0, omega arith, first))
        | inr later ↦ elim (contains_cases y ys t later) [ inl first ↦ (0, omega arith, first) | inr more ↦ contains_later y rest t (same.1 (contains_later x ys t more)) ]
      ],
)

contains-put : (x : List ℕ) (ys : List (List ℕ)) (t : List ℕ) → Contains (put x ys) t ↔ Contains (x ∷ ys) t
unfolding put
contains-put x [] t = (λ has. has, λ has. has)
contains-put x (y ∷ ys) t = contains_by (cmp x y) x y ys (put x ys) t refl (contains-put x ys t)

-- the ascending list of some texts
record IsSetOf (texts stop : List (List ℕ)) : Type 0 where
  ascending : IsAscending stop
  same : (t : List ℕ) → Contains stop t ↔ Contains texts t

set_of : (texts : List (List ℕ)) → (stop : List (List ℕ)) × IsSetOf texts stop
unfolding IsStrictlySortedBy
set_of [] = ([], record { ascending = tt; same = λ t. (λ has. has, λ has. has) })
set_of (x ∷ xs) =
    let (rest, is) = set_of xs in (
      put x rest,
      record {
        ascending = ascending-put x rest is.ascending;
        same = λ t. (
          λ has.
              elim (contains_cases x rest t ((contains-put x rest t).0 has)) [ inl first ↦ (0, omega arith, first) | inr later ↦ contains_later x xs t ((is.same t).0 later) ],
          λ has.
              (contains-put x rest t).1
              (elim (contains_cases x xs t has) [ inl first ↦ (0, omega arith, first) | inr later ↦ contains_later x rest t ((is.same t).1 later) ]),
        );
      },
    )

-- a line is read, or has a fault that names its line
abbrev IsLineFaultOf : List ℕ → ℕ → StopError → Type 0
IsLineFaultOf line number fault = IsStopLineFault line number fault × ((text : List ℕ) → HasStopLineFault text fault → IsStopFault text fault)

by_words : (b : ℕ) (bs : List ℕ) (found : List (List ℕ)) → words (b ∷ bs) ≡ found → IsStopLine (b ∷ bs) ⊎ ((number : ℕ) → (fault : StopError) × IsLineFaultOf (b ∷ bs) number fault)
by_words b bs [] is = inr (λ number. (NotOneWord number, ((refl, (λ e. cc), λ one. let clash = sym (ap length is) ∙ one in omega arith), λ text f. f)))
by_words b bs (word ∷ []) is =
    elim (cases_Bool (is_term_size (term_of_word word))) [
      | inl size ↦ inl (inr (record { word = word; only = is; size = size }))
      | inr wrong ↦ inr (λ number. (LongWord number, ((refl, (word, is, wrong)), λ text f. f)))
    ]
by_words b bs (word ∷ next ∷ more) is =
    inr (λ number. (NotOneWord number, ((refl, (λ e. cc), λ one. let count = sym (ap length is) ∙ one in omega arith), λ text f. f)))

read_or_fault : (line : List ℕ) → IsStopLine line ⊎ ((number : ℕ) → (fault : StopError) × IsLineFaultOf line number fault)
read_or_fault [] = inl (inl refl)
read_or_fault (b ∷ bs) = by_words b bs (words (b ∷ bs)) refl

-- all lines are read, or a first one has a fault
record HasFirstFault (lines : List (List ℕ)) : Type 0 where
  before : List (List ℕ)
  line : List ℕ
  after : List (List ℕ)
  is : lines ≡ before ++ line ∷ after
  earlier : All IsStopLine before
  fault : (number : ℕ) → (fault : StopError) × IsLineFaultOf line number fault

all_or_first : (lines : List (List ℕ)) → All IsStopLine lines ⊎ HasFirstFault lines
all_or_first [] = inl (All-nil IsStopLine)
all_or_first (line ∷ lines) =
    elim (read_or_fault line) [
      | inr fault ↦ inr (record { before = []; line = line; after = lines; is = refl; earlier = All-nil IsStopLine; fault = fault })
      | inl read ↦
          elim (all_or_first lines) [
            | inl all ↦ inl (All-cons IsStopLine line lines read all)
            | inr f ↦
                inr (record { before = line ∷ f.before; line = f.line; after = f.after; is = ap (λ l. line ∷ l) f.is; earlier = All-cons IsStopLine line f.before read f.earlier; fault = f.fault })
          ]
    ]

-- a text has a stop set or a fault
pub complete : (text : List ℕ) → ((stop : List (List ℕ)) × IsStopText text stop) ⊎ ((fault : StopError) × IsStopFault text fault)
complete text =
    elim (cases_lt (2 ^ 28) (length text)) [
      | inl large ↦ inr (TooLarge, large)
      | inr short ↦
          elim (all_or_first (lines_of text)) [
            | inl all ↦
                let (stop, is) = set_of (stop_terms_of (lines_of text)) in
                inl (stop, record { short = short; lines = lines_of text; cut = cut_at_line_feeds text; read = all; ascending = is.ascending; terms = is.same })
            | inr f ↦
                let (fault, (of_line, whole)) = f.fault (length f.before + 1) in
                let cut : IsCutAtLineFeeds text (f.before ++ f.line ∷ f.after) = subst (IsCutAtLineFeeds text) f.is (cut_at_line_feeds text) in
                inr (fault, whole text (record { short = short; before = f.before; line = f.line; after = f.after; cut = cut; earlier = f.earlier; fault_of_line = of_line }))
          ]
    ]

-- a stop text is refused for want of memory alone
pub refused_for_memory : (text : List ℕ) (stop : List (List ℕ)) (fault : StopError) → IsStopText text stop → (fault ≡ Memory) ⊎ IsStopFault text fault → fault ≡ Memory
refused_for_memory text stop fault read (inl memory) = memory
refused_for_memory text stop fault read (inr f) = absurd (refused text stop fault f read)

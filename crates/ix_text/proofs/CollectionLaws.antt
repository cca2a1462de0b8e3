-- A text has one list of documents or one fault, and never both.
use Rattle.std.proofs.Common.{◌≡◌, ◌≢◌, ℕ, suc, zero, ◌+◌, ◌^◌, ◌<◌, ◌≤◌, ◌⊎◌, inl, inr, ⊎_elim, List, [], ◌∷◌, ◌++◌, length, take, refl, sym, ap, subst, ◌∙◌, arith, append_assoc, length-append, All, Contains, IsUtf8, flat_map}
use Rattle.std.specs.Str.{IsValidUpTo, is_utf8}
use Rattle.std.proofs.lemmas.List.{append-nil, take_all}
use Rattle.std.proofs.lemmas.List.Elements.{Contains-append_right, Contains-append_cases}
use Rattle.std.proofs.lemmas.Bool.{cases_lt, cases_eq, cases_Bool, true≢false}
use Rattle.std.proofs.lemmas.Str.{IsUtf8-nil, IsUtf8-from_is_utf8, is_utf8-from_IsUtf8, utf8_valid_len-IsValidUpTo}
use Rattle.ix_text.specs.Collections.{NamedText, IsName}
use Rattle.ix_text.specs.CollectionText.{line_of, IsCollectionText}
use Rattle.ix_text.specs.CollectionFaults.{IsCutAtFirst, IsFirstLine, IsNameSize, IsLineFault, IsReadUpTo, HasLineFault, IsCollectionFault}
use Rattle.ix_text.specs.declared.collection.CollectionError.{CollectionError}
use Rattle.ix_text.specs.declared.collection.CollectionError.TheVariants.{TooLarge, NotUtf8, NoTab, Name, NoLineEnd, Memory}
use Rattle.ix_text.proofs.CollectionLemmas.{IsName-from_line, text_of_line_unbroken, line_of-cut, next_text, read_nothing, read_line_more, read_all, fault_from_line}

-- ---- one place to cut

contains_head : (x : ℕ) (xs : List ℕ) (y : ℕ) → x ≡ y → Contains (x ∷ xs) y
contains_head x xs y is = (0, omega arith, is)

contains_tail : (x : ℕ) (xs : List ℕ) (y : ℕ) → Contains xs y → Contains (x ∷ xs) y
contains_tail x xs y (k, within, is) = (suc k, omega arith, is)

contains_cases : (x : ℕ) (xs : List ℕ) (y : ℕ) → Contains (x ∷ xs) y → (x ≡ y) ⊎ Contains xs y
contains_cases x xs y (zero, within, is) = inl is
contains_cases x xs y (suc k, within, is) = inr (k, omega arith, is)

same_split : (b : ℕ) (xs ys r t : List ℕ) → ¬ (Contains xs b) → ¬ (Contains ys b) → xs ++ b ∷ r ≡ ys ++ b ∷ t → (xs ≡ ys) × (r ≡ t)
same_split b [] [] r t nx ny e = (refl, cc)
same_split b [] (y ∷ ys) r t nx ny e = let is : y ≡ b = cc in absurd (ny (contains_head y ys b is))
same_split b (x ∷ xs) [] r t nx ny e = let is : x ≡ b = cc in absurd (nx (contains_head x xs b is))
same_split b (x ∷ xs) (y ∷ ys) r t nx ny e =
    let rest : xs ++ b ∷ r ≡ ys ++ b ∷ t = cc in
    let heads : x ≡ y = cc in
    let tails = same_split b xs ys r t (λ h. nx (contains_tail x xs b h)) (λ h. ny (contains_tail y ys b h)) rest in
    (cc tails.0, tails.1)

same_cut : (text : List ℕ) (b : ℕ) (f k g l : List ℕ) → IsCutAtFirst text b f k → IsCutAtFirst text b g l → (f ≡ g) × (k ≡ l)
same_cut text b f k g l c d = same_split b f g k l c.first d.first (sym c.joined ∙ d.joined)

cut_contains : (text : List ℕ) (b : ℕ) (f k : List ℕ) → IsCutAtFirst text b f k → Contains text b
cut_contains text b f k c = subst (λ (t : List ℕ). Contains t b) (sym c.joined) (Contains-append_right f (b ∷ k) b (contains_head b k b refl))

same_line : (text l m : List ℕ) → IsFirstLine text l → IsFirstLine text m → l ≡ m
same_line text l m (inl c) (inl d) = (same_cut text 10 l c.0 m d.0 c.1 d.1).0
same_line text l m (inl c) (inr d) = absurd (d.1 (cut_contains text 10 l c.0 c.1))
same_line text l m (inr c) (inl d) = absurd (c.1 (cut_contains text 10 m d.0 d.1))
same_line text l m (inr c) (inr d) = sym c.0 ∙ d.0

-- ---- the line of a document

-- what is left begins with the line of a lawful document
record BeginsWithLine (left : List ℕ) : Type 0 where
  document : NamedText
  next : List ℕ
  is : left ≡ line_of document ++ next
  name : IsName document.name
  unbroken : ¬ (Contains document.text 10)

name_lacks_tab : (name : List ℕ) → IsName name → ¬ (Contains name 9)
name_lacks_tab name n (k, within, is) = (n.unbroken k 9 within).0 is

name_lacks_feed : (name : List ℕ) → IsName name → ¬ (Contains name 10)
name_lacks_feed name n (k, within, is) = (n.unbroken k 10 within).1 is

line_cut : (left : List ℕ) (b : BeginsWithLine left) → IsCutAtFirst left 10 (b.document.name ++ 9 ∷ b.document.text) b.next
line_cut left b = record {
  joined = b.is ∙ line_of-cut b.document b.next;
  first = λ has. ⊎_elim
      (name_lacks_feed b.document.name b.name)
      (λ later. ⊎_elim (λ tab. absurd (omega (arith, tab))) b.unbroken (contains_cases 9 b.document.text 10 later))
      (Contains-append_cases b.document.name (9 ∷ b.document.text) 10 has);
}

name_cut : (left : List ℕ) (b : BeginsWithLine left) → IsCutAtFirst (b.document.name ++ 9 ∷ b.document.text) 9 b.document.name b.document.text
name_cut left b = record { joined = refl; first = name_lacks_tab b.document.name b.name }

-- it has no fault
no_line_fault : (left : List ℕ) (n : ℕ) (e : CollectionError) → BeginsWithLine left → IsLineFault left n e → ⊥
no_line_fault left n TooLarge b f = f
no_line_fault left n (NotUtf8 k) b f = f
no_line_fault left n (NoTab k) b (is, (bytes, first, none)) =
    let same = same_line left bytes (b.document.name ++ 9 ∷ b.document.text) first (inl (b.next, line_cut left b)) in
    none (subst (λ (t : List ℕ). Contains t 9) (sym same) (cut_contains _ 9 _ _ (name_cut left b)))
no_line_fault left n (Name k) b (is, (bytes, name, rest, first, cut, size)) =
    let same = same_line left bytes (b.document.name ++ 9 ∷ b.document.text) first (inl (b.next, line_cut left b)) in
    let cut' = subst (λ (t : List ℕ). IsCutAtFirst t 9 name rest) same cut in
    let names = (same_cut _ 9 name rest b.document.name b.document.text cut' (name_cut left b)).0 in
    size (subst IsNameSize (sym names) (b.name.some_byte, b.name.short))
no_line_fault left n (NoLineEnd k) b (is, (name, rest, cut, size, none)) = none (cut_contains left 10 _ b.next (line_cut left b))
no_line_fault left n Memory b f = f

-- two faults of one line are one
lacks_tab : (left bytes other name rest : List ℕ) → IsFirstLine left bytes → IsFirstLine left other → ¬ (Contains bytes 9) → IsCutAtFirst other 9 name rest → ⊥
lacks_tab left bytes other name rest first second none cut =
    none (subst (λ (t : List ℕ). Contains t 9) (same_line left other bytes second first) (cut_contains other 9 name rest cut))

wrong_size : (left bytes name rest other more : List ℕ) → IsFirstLine left bytes → IsCutAtFirst bytes 9 name rest → ¬ (IsNameSize name) → ¬ (Contains left 10) → IsCutAtFirst left 9 other more → IsNameSize other → ⊥
wrong_size left bytes name rest other more first cut size none cut' size' =
    let same = same_line left bytes left first (inr (refl, none)) in
    let names = (same_cut left 9 name rest other more (subst (λ (t : List ℕ). IsCutAtFirst t 9 name rest) same cut) cut').0 in
    size (subst IsNameSize (sym names) size')

same_line_fault : (left : List ℕ) (n : ℕ) (e d : CollectionError) → IsLineFault left n e → IsLineFault left n d → e ≡ d
same_line_fault left n TooLarge d f g = absurd f
same_line_fault left n (NotUtf8 k) d f g = absurd f
same_line_fault left n Memory d f g = absurd f
same_line_fault left n (NoTab k) TooLarge f g = absurd g
same_line_fault left n (NoTab k) (NotUtf8 j) f g = absurd g
same_line_fault left n (NoTab k) (NoTab j) f g = ap NoTab (f.0 ∙ sym g.0)
same_line_fault left n (NoTab k) (Name j) (is, (bytes, first, none)) (is', (bytes', name, rest, first', cut, size)) = absurd (lacks_tab left bytes bytes' name rest first first' none cut)
same_line_fault left n (NoTab k) (NoLineEnd j) (is, (bytes, first, none)) (is', (name, rest, cut, size, whole)) = absurd (lacks_tab left bytes left name rest first (inr (refl, whole)) none cut)
same_line_fault left n (NoTab k) Memory f g = absurd g
same_line_fault left n (Name k) TooLarge f g = absurd g
same_line_fault left n (Name k) (NotUtf8 j) f g = absurd g
same_line_fault left n (Name k) (NoTab j) (is', (bytes', name, rest, first', cut, size)) (is, (bytes, first, none)) = absurd (lacks_tab left bytes bytes' name rest first first' none cut)
same_line_fault left n (Name k) (Name j) f g = ap Name (f.0 ∙ sym g.0)
same_line_fault left n (Name k) (NoLineEnd j) (is, (bytes, name, rest, first, cut, size)) (is', (other, more, cut', size', whole)) = absurd (wrong_size left bytes name rest other more first cut size whole cut' size')
same_line_fault left n (Name k) Memory f g = absurd g
same_line_fault left n (NoLineEnd k) TooLarge f g = absurd g
same_line_fault left n (NoLineEnd k) (NotUtf8 j) f g = absurd g
same_line_fault left n (NoLineEnd k) (NoTab j) (is', (name, rest, cut, size, whole)) (is, (bytes, first, none)) = absurd (lacks_tab left bytes left name rest first (inr (refl, whole)) none cut)
same_line_fault left n (NoLineEnd k) (Name j) (is', (other, more, cut', size', whole)) (is, (bytes, name, rest, first, cut, size)) = absurd (wrong_size left bytes name rest other more first cut size whole cut' size')
same_line_fault left n (NoLineEnd k) (NoLineEnd j) f g = ap NoLineEnd (f.0 ∙ sym g.0)
same_line_fault left n (NoLineEnd k) Memory f g = absurd g

-- ---- two ways to read one text

all_head : {X : Type 0} (P : X → Type 0) (x : X) (xs : List X) → All P (x ∷ xs) → P x
all_head P x xs h = h 0 x (omega arith)

all_tail : {X : Type 0} (P : X → Type 0) (x : X) (xs : List X) → All P (x ∷ xs) → All P xs
all_tail P x xs h k d within = h (suc k) d (omega arith)

-- where two fronts of documents end: at one place, or one goes on with a document's line
abbrev IsSameFront : List NamedText → List NamedText → List ℕ → List ℕ → Type 0
IsSameFront one other left rest = ((one ≡ other) × (left ≡ rest)) ⊎ (BeginsWithLine left ⊎ BeginsWithLine rest)

abbrev AreNamedTexts : List NamedText → Type 0
AreNamedTexts documents = All (λ (d : NamedText). IsName d.name) documents × All (λ (d : NamedText). ¬ (Contains d.text 10)) documents

lawful_tail : (d : NamedText) (ds : List NamedText) → AreNamedTexts (d ∷ ds) → AreNamedTexts ds
lawful_tail d ds h = (all_tail (λ (d : NamedText). IsName d.name) d ds h.0, all_tail (λ (d : NamedText). ¬ (Contains d.text 10)) d ds h.1)

abbrev begins : (d : NamedText) (ds : List NamedText) (next left : List ℕ) → AreNamedTexts (d ∷ ds) → left ≡ line_of d ++ next → BeginsWithLine left
begins d ds next left h is = record { document = d; next = next; is = is; name = all_head (λ (d : NamedText). IsName d.name) d ds h.0; unbroken = all_head (λ (d : NamedText). ¬ (Contains d.text 10)) d ds h.1 }

same_document : (d f : NamedText) → d.name ≡ f.name → d.text ≡ f.text → d ≡ f
same_document d f names texts =
    let by_name : List ℕ → NamedText = λ n. record { name = n; text = d.text } in
    let by_text : List ℕ → NamedText = λ t. record { name = f.name; text = t } in
    ap by_name names ∙ ap by_text texts

same_front : (one other : List NamedText) (left rest : List ℕ) → AreNamedTexts one → AreNamedTexts other → flat_map line_of one ++ left ≡ flat_map line_of other ++ rest → IsSameFront one other left rest
same_front [] [] left rest p q e = inl (refl, e)
same_front [] (d ∷ ds) left rest p q e = inr (inl (begins d ds (flat_map line_of ds ++ rest) left q (e ∙ append_assoc (line_of d) (flat_map line_of ds) rest)))
same_front (d ∷ ds) [] left rest p q e = inr (inr (begins d ds (flat_map line_of ds ++ left) rest p (sym e ∙ append_assoc (line_of d) (flat_map line_of ds) left)))
same_front (d ∷ ds) (f ∷ fs) left rest p q e =
    let whole = (line_of d ++ flat_map line_of ds) ++ left in
    let one : BeginsWithLine whole = begins d ds (flat_map line_of ds ++ left) whole p (append_assoc (line_of d) (flat_map line_of ds) left) in
    let other : BeginsWithLine whole = begins f fs (flat_map line_of fs ++ rest) whole q (e ∙ append_assoc (line_of f) (flat_map line_of fs) rest) in
    let lines = same_cut whole 10 (d.name ++ 9 ∷ d.text) (flat_map line_of ds ++ left) (f.name ++ 9 ∷ f.text) (flat_map line_of fs ++ rest) (line_cut whole one) (line_cut whole other) in
    let cut = subst (λ (t : List ℕ). IsCutAtFirst t 9 f.name f.text) (sym lines.0) (name_cut whole other) in
    let parts = same_cut (d.name ++ 9 ∷ d.text) 9 d.name d.text f.name f.text (name_cut whole one) cut in
    let heads : d ≡ f = same_document d f parts.0 parts.1 in
    ⊎_elim
    (λ same. let all : d ∷ ds ≡ f ∷ fs = let tails = same.0 in cc in inl (all, same.1))
    (λ more. inr more)
    (same_front ds fs left rest (lawful_tail d ds p) (lawful_tail f fs q) lines.1)

-- ---- the laws

read_whole : (text : List ℕ) (documents : List NamedText) → IsCollectionText text documents → IsReadUpTo text documents (length documents + 1) []
read_whole text documents c = record { lines = c.lines ∙ sym (append-nil (flat_map line_of documents)); names = c.names; texts = c.texts; numbered = refl }

fronts : (text : List ℕ) (one other : List NamedText) (n m : ℕ) (left rest : List ℕ) → IsReadUpTo text one n left → IsReadUpTo text other m rest → IsSameFront one other left rest
fronts text one other n m left rest r s = same_front one other left rest (r.names, r.texts) (s.names, s.texts) (sym r.lines ∙ s.lines)

begins_nothing : BeginsWithLine [] → ⊥
begins_nothing b =
    let lengths = ap length (b.is ∙ line_of-cut b.document b.next) in
    absurd (omega (arith, simp length-append at lengths))

-- one list of documents at most
pub one_list : (text : List ℕ) (one other : List NamedText) → IsCollectionText text one → IsCollectionText text other → one ≡ other
one_list text one other c d =
    ⊎_elim (λ same. same.0) (λ more. absurd (⊎_elim begins_nothing begins_nothing more))
    (fronts text one other _ _ [] [] (read_whole text one c) (read_whole text other d))

-- what a fault is
abbrev FaultCases : List ℕ → CollectionError → Type 0
FaultCases text e = ((e ≡ TooLarge) × (2 ^ 28 < length text)) ⊎ (((n : ℕ) × (e ≡ NotUtf8 n) × (length text ≤ 2 ^ 28) × IsValidUpTo text n) ⊎ HasLineFault text e)

fault_cases : (text : List ℕ) (e : CollectionError) → IsCollectionFault text e → FaultCases text e
fault_cases text TooLarge f = inl (refl, f)
fault_cases text (NotUtf8 n) f = inr (inl (n, refl, f.0, f.1))
fault_cases text (NoTab n) f = inr (inr f)
fault_cases text (Name n) f = inr (inr f)
fault_cases text (NoLineEnd n) f = inr (inr f)
fault_cases text Memory f = absurd f

not_text : (text : List ℕ) (n : ℕ) → IsValidUpTo text n → ¬ (IsUtf8 text)
not_text text n v u = v.longest (length text) v.short (subst IsUtf8 (sym (take_all (length text) text (omega arith))) u)

no_fault_at : (text : List ℕ) (documents : List NamedText) (e : CollectionError) → HasLineFault text e → IsCollectionText text documents → ⊥
no_fault_at text documents e f c =
    ⊎_elim
    (λ same. let none : length f.left ≡ 0 = ap length same.1 in let some : 0 < length f.left = f.some_byte in omega arith)
    (⊎_elim (λ b. no_line_fault f.left f.number e b f.fault_of_line) begins_nothing)
    (fronts text f.documents documents f.number _ f.left [] f.earlier (read_whole text documents c))

-- a text that has a fault has no list of documents
pub refused : (text : List ℕ) (documents : List NamedText) (e : CollectionError) → IsCollectionFault text e → ¬ (IsCollectionText text documents)
refused text documents e f c =
    let small : length text ≤ 2 ^ 28 = c.size in
    ⊎_elim
    (λ large. omega (arith, large.1))
    (⊎_elim (λ broken. not_text text broken.0 broken.3 c.characters) (λ line. no_fault_at text documents e line c))
    (fault_cases text e f)

same_fault_of_lines : (text : List ℕ) (e d : CollectionError) → HasLineFault text e → HasLineFault text d → e ≡ d
same_fault_of_lines text e d f g =
    ⊎_elim
    (λ same.
    let number : g.number ≡ f.number = g.earlier.numbered ∙ ap (λ (ds : List NamedText). length ds + 1) (sym same.0) ∙ sym f.earlier.numbered in
    let at_left = subst (λ (l : List ℕ). IsLineFault l g.number d) (sym same.1) g.fault_of_line in
    same_line_fault f.left f.number e d f.fault_of_line (subst (λ (k : ℕ). IsLineFault f.left k d) number at_left))
    (⊎_elim (λ b. absurd (no_line_fault f.left f.number e b f.fault_of_line)) (λ b. absurd (no_line_fault g.left g.number d b g.fault_of_line)))
    (fronts text f.documents g.documents f.number g.number f.left g.left f.earlier g.earlier)

-- one fault at most
pub one_fault : (text : List ℕ) (e d : CollectionError) → IsCollectionFault text e → IsCollectionFault text d → e ≡ d
one_fault text e d f g = one_of_cases text e d (fault_cases text e f) (fault_cases text d g)
  where
    one_of_cases : (text : List ℕ) (e d : CollectionError) → FaultCases text e → FaultCases text d → e ≡ d
    one_of_cases text e d (inl a) (inl b) = a.0 ∙ sym b.0
    one_of_cases text e d (inl a) (inr (inl b)) = absurd (omega (arith, a.1, b.2))
    one_of_cases text e d (inl a) (inr (inr b)) = absurd (omega (arith, a.1, b.size))
    one_of_cases text e d (inr (inl a)) (inl b) = absurd (omega (arith, b.1, a.2))
    one_of_cases text e d (inr (inl a)) (inr (inl b)) = a.1 ∙ ap NotUtf8 (sym (utf8_valid_len-IsValidUpTo text a.0 a.3) ∙ utf8_valid_len-IsValidUpTo text b.0 b.3) ∙ sym b.1
    one_of_cases text e d (inr (inl a)) (inr (inr b)) = absurd (not_text text a.0 a.3 b.characters)
    one_of_cases text e d (inr (inr a)) (inl b) = absurd (omega (arith, b.1, a.size))
    one_of_cases text e d (inr (inr a)) (inr (inl b)) = absurd (not_text text b.0 b.3 a.characters)
    one_of_cases text e d (inr (inr a)) (inr (inr b)) = same_fault_of_lines text e d a b

-- ---- each text has the one or the other

find_cut : (b : ℕ) (text : List ℕ) → ((front : List ℕ) × ((back : List ℕ) × IsCutAtFirst text b front back)) ⊎ (¬ (Contains text b))
find_cut b [] = inr (λ (k, within, is). omega arith)
find_cut b (x ∷ xs) =
    ⊎_elim
    (λ (same : x ≡ b). inl ([], (xs, record { joined = ap (λ y. y ∷ xs) same; first = λ (k, within, is). omega arith })))
    (λ (other : x ≢ b). ⊎_elim
    (λ later. inl (x ∷ later.0, (later.1.0, record { joined = ap (λ t. x ∷ t) later.1.1.joined; first = λ has. ⊎_elim other later.1.1.first (contains_cases x later.0 b has) })))
    (λ none. inr (λ has. ⊎_elim other none (contains_cases x xs b has)))
    (find_cut b xs))
    (cases_eq x b)

find_size : (name : List ℕ) → IsNameSize name ⊎ (¬ (IsNameSize name))
find_size name =
    ⊎_elim
    (λ some. ⊎_elim (λ long. inr (λ size. omega (arith, long, size.1))) (λ short. inl (some, short)) (cases_lt 255 (length name)))
    (λ none. inr (λ size. omega (arith, none, size.0)))
    (cases_lt 0 (length name))

abbrev HasEither : List ℕ → Type 0
HasEither text = ((documents : List NamedText) × IsCollectionText text documents) ⊎ ((fault : CollectionError) × IsCollectionFault text fault)

-- a reader of what is left, which has at most so many bytes
abbrev ReadsRest : ℕ → List ℕ → Type 0
ReadsRest fuel text =
    (documents : List NamedText) (number : ℕ) (left : List ℕ) → length left ≤ fuel → length text ≤ 2 ^ 28 → IsUtf8 text → IsUtf8 left → IsReadUpTo text documents number left → HasEither text

-- the next line, where an LF ends it, and then the rest
read_next : (fuel : ℕ) (text : List ℕ) → ReadsRest fuel text → (documents : List NamedText) (number : ℕ) (left line next : List ℕ) → length left ≤ suc fuel → length text ≤ 2 ^ 28 → IsUtf8 text → IsUtf8 left
    → IsReadUpTo text documents number left → 0 < length left → IsCutAtFirst left 10 line next → HasEither text
read_next fuel text go documents number left line next enough small u v r some cut =
    let first : IsFirstLine left line = inl (next, cut) in
    let shorter : length next ≤ fuel = let lengths = ap length cut.joined in omega (arith, simp length-append at lengths) in
    ⊎_elim
    (λ (named : (name : List ℕ) × ((rest : List ℕ) × IsCutAtFirst line 9 name rest)). ⊎_elim
    (λ (size : IsNameSize named.0).
    let d : NamedText = record { name = named.0; text = named.1.0 } in
    let is : left ≡ line_of d ++ next = cut.joined ∙ ap (λ t. t ++ 10 ∷ next) named.1.1.joined ∙ sym (line_of-cut d next) in
    go (documents ++ d ∷ []) (number + 1) next shorter small u (next_text left d next is v)
    (read_line_more text documents number left d next r is (IsName-from_line left line named.0 named.1.0 v first named.1.1 size) (text_of_line_unbroken left line named.0 named.1.0 first named.1.1)))
    (λ wrong. inr (Name number, fault_from_line text documents number left (Name number) small u r some (refl, (line, named.0, named.1.0, first, named.1.1, wrong))))
    (find_size named.0))
    (λ (none : ¬ (Contains line 9)). inr (NoTab number, fault_from_line text documents number left (NoTab number) small u r some (refl, (line, first, none))))
    (find_cut 9 line)

-- the last line, where no LF ends it
read_last : (text : List ℕ) (documents : List NamedText) (number : ℕ) (left : List ℕ) → length text ≤ 2 ^ 28 → IsUtf8 text
    → IsReadUpTo text documents number left → 0 < length left → ¬ (Contains left 10) → HasEither text
read_last text documents number left small u r some whole =
    let first : IsFirstLine left left = inr (refl, whole) in
    ⊎_elim
    (λ (named : (name : List ℕ) × ((rest : List ℕ) × IsCutAtFirst left 9 name rest)). ⊎_elim
    (λ size. inr (NoLineEnd number, fault_from_line text documents number left (NoLineEnd number) small u r some (refl, (named.0, named.1.0, named.1.1, size, whole))))
    (λ wrong. inr (Name number, fault_from_line text documents number left (Name number) small u r some (refl, (left, named.0, named.1.0, first, named.1.1, wrong))))
    (find_size named.0))
    (λ (none : ¬ (Contains left 9)). inr (NoTab number, fault_from_line text documents number left (NoTab number) small u r some (refl, (left, first, none))))
    (find_cut 9 left)

read_rest : (fuel : ℕ) (text : List ℕ) → ReadsRest fuel text
read_rest fuel text documents number [] enough small u v r = inl (documents, read_all text documents number [] small u r refl)
read_rest zero text documents number (x ∷ left) enough small u v r = absurd (omega arith)
read_rest (suc fuel) text documents number (x ∷ left) enough small u v r =
    ⊎_elim
    (λ (found : (line : List ℕ) × ((next : List ℕ) × IsCutAtFirst (x ∷ left) 10 line next)).
    read_next fuel text (read_rest fuel text) documents number (x ∷ left) found.0 found.1.0 enough small u v r (omega arith) found.1.1)
    (λ whole. read_last text documents number (x ∷ left) small u r (omega arith) whole)
    (find_cut 10 (x ∷ left))

-- the longest front that is text
find_front : (text : List ℕ) (m : ℕ) → m < length text → ((k : ℕ) → m < k → ¬ (IsUtf8 (take k text))) → (n : ℕ) × IsValidUpTo text n
find_front text zero short longer = (0, record { short = short; front = IsUtf8-nil; longest = longer })
find_front text (suc m) short longer =
    ⊎_elim
    (λ yes. (suc m, record { short = short; front = IsUtf8-from_is_utf8 (take (suc m) text) yes; longest = longer }))
    (λ no. find_front text m (omega arith) (λ k above u. ⊎_elim
    (λ (same : k ≡ suc m). true≢false (sym (is_utf8-from_IsUtf8 (take (suc m) text) (subst (λ (j : ℕ). IsUtf8 (take j text)) same u)) ∙ no))
    (λ other. longer k (omega (arith, other)) u)
    (cases_eq k (suc m))))
    (cases_Bool (is_utf8 (take (suc m) text)))

no_text_front : (text : List ℕ) → ¬ (IsUtf8 text) → (n : ℕ) × IsValidUpTo text n
no_text_front [] broken = absurd (broken IsUtf8-nil)
no_text_front (x ∷ text) broken =
    find_front (x ∷ text) (length text) (omega arith) (λ k above u. broken (subst IsUtf8 (take_all k (x ∷ text) (omega arith)) u))

-- a text has a list of documents or a fault
pub complete : (text : List ℕ) → HasEither text
complete text =
    ⊎_elim
    (λ large. inr (TooLarge, large))
    (λ small. ⊎_elim
    (λ yes. let u = IsUtf8-from_is_utf8 text yes in read_rest (length text) text [] 1 text (omega arith) small u u (read_nothing text))
    (λ no.
    let broken : ¬ (IsUtf8 text) = λ u. true≢false (sym (is_utf8-from_IsUtf8 text u) ∙ no) in
    let front = no_text_front text broken in
    inr (NotUtf8 front.0, (small, front.1)))
    (cases_Bool (is_utf8 text)))
    (cases_lt (2 ^ 28) (length text))

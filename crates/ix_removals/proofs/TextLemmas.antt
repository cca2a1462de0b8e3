-- The text of removals, line by line.
use Rattle.std.proofs.Common.{◌≡◌, ◌≢◌, ℕ, ◌+◌, ◌<◌, List, [], ◌∷◌, ◌++◌, length, Less, All, refl, sym, ap, ◌∙◌, subst, arith, append_assoc, length-append}
use Rattle.std.specs.Prelude.{String, decimal, string_bytes}
use Rattle.std.specs.Cmp.Lexicographic.{slice_cmp}
use Rattle.std.specs.List.{AllByRecursion}
use Rattle.std.specs.List.Sorted.{IsStrictlySortedBy}
use Rattle.std.specs.Ordering.{nat_cmp}
use Rattle.std.proofs.lemmas.Grind.{flat_map-append}
use Rattle.std.proofs.lemmas.List.{append-nil}
use Rattle.std.proofs.lemmas.List.Elements.{All-append, All-head, All-nil, All-tail}
use Rattle.std.proofs.lemmas.Map.Views.{All-before_last}
use Rattle.ix_removals.specs.RemovalEntries.{removals_of}
use Rattle.ix_removals.specs.RemovalFaults.{IsFaultAt}
use Rattle.ix_removals.specs.RemovalsText.{AreRemovals, IsRemoval, Removal, line_of, name_cmp, removals_text}
use Rattle.ix_removals.proofs.LineLemmas.{same_line}

pub no_removals : AreRemovals []
unfolding IsStrictlySortedBy
no_removals = record { each = All-nil IsRemoval; ascending = tt }

-- ---- fronts of removals

front_ascends : (before : List Removal) (one : Removal) (others : List Removal) → IsStrictlySortedBy name_cmp (before ++ one ∷ others) → IsStrictlySortedBy name_cmp (before ++ one ∷ [])
unfolding IsStrictlySortedBy
front_ascends [] one others up = (tt, tt)
front_ascends (first ∷ before) one others up = (front_all (λ y. name_cmp first y ≡ Less) before one others up.0, front_ascends before one others up.1)
  where
    front_all : (P : Removal → Type 0) (before : List Removal) (one : Removal) (others : List Removal) → AllByRecursion P (before ++ one ∷ others) → AllByRecursion P (before ++ one ∷ [])
    front_all P [] one others all = (all.0, tt)
    front_all P (first ∷ before) one others all = (all.0, front_all P before one others all.1)

front_each : (before : List Removal) (one : Removal) (others : List Removal) → All IsRemoval (before ++ one ∷ others) → All IsRemoval (before ++ one ∷ [])
front_each [] one others all = λ k d within. let first : k ≡ 0 = omega arith in rw first (All-head IsRemoval one others all)
front_each (first ∷ before) one others all = All-append IsRemoval (first ∷ []) (before ++ one ∷ []) (λ k d within. let only : k ≡ 0 = omega arith in rw only (All-head IsRemoval first (before ++ one ∷ others) all)) (front_each before one others (All-tail IsRemoval first (before ++ one ∷ others) all))

lawful_front : (before : List Removal) (one : Removal) (others : List Removal) → AreRemovals (before ++ one ∷ others) → AreRemovals (before ++ one ∷ [])
lawful_front before one others are = record { each = front_each before one others are.each; ascending = front_ascends before one others are.ascending }

lawful_rest : (one : Removal) (others : List Removal) → AreRemovals (one ∷ others) → AreRemovals others
unfolding IsStrictlySortedBy
lawful_rest one others are = record { each = All-tail IsRemoval one others are.each; ascending = are.ascending.1 }

-- the last of lawful removals is lawful, and its name is above all others
pub last_lawful : (before : List Removal) (one : Removal) → AreRemovals (before ++ one ∷ []) → IsRemoval one × All (λ other. slice_cmp nat_cmp other.name one.name ≡ Less) before
last_lawful before one are = (last_is before one are.each, All-before_last name_cmp before one are.ascending)
  where
    last_is : (before : List Removal) (one : Removal) → All IsRemoval (before ++ one ∷ []) → IsRemoval one
    last_is [] one all = All-head IsRemoval one [] all
    last_is (first ∷ before) one all = last_is before one (All-tail IsRemoval first (before ++ one ∷ []) all)

-- ---- texts

-- one more line is read
pub text_more : (bytes : List ℕ) (before : List Removal) (left : List ℕ) (one : Removal) (rest : List ℕ) → bytes ≡ removals_text before ++ left → left ≡ line_of one ++ rest → bytes ≡ removals_text (before ++ one ∷ []) ++ rest
text_more bytes before left one rest joined is =
    joined ∙ ap (λ l. removals_text before ++ l) is
    ∙ sym (append_assoc (removals_text before) (line_of one) rest)
    ∙ ap (λ l. l ++ rest) (sym (flat_map-append line_of before (one ∷ []) ∙ ap (λ l. removals_text before ++ l) (append-nil (line_of one))))

some_line : (removal : Removal) (rest : List ℕ) → 0 < length (line_of removal ++ rest)
some_line removal rest = simp length-append (omega arith)

-- what is behind the lines of some removals in a text of removals is the text of the others
shared_front : (before all : List Removal) (left : List ℕ) → AreRemovals before → AreRemovals all → removals_text before ++ left ≡ removals_text all → (others : List Removal) × (all ≡ before ++ others) × (left ≡ removals_text others)
shared_front [] all left are also same = (all, refl, same)
shared_front (first ∷ before) [] left are also same =
    let size = some_line first (removals_text before ++ left) in
    let empty : line_of first ++ (removals_text before ++ left) ≡ [] = sym (append_assoc (line_of first) (removals_text before) left) ∙ same in
    absurd (omega (arith, ap length empty))
shared_front (first ∷ before) (one ∷ all) left are also same =
    let lines = same_line first one (removals_text before ++ left) (removals_text all) (All-head IsRemoval first before are.each) (All-head IsRemoval one all also.each) (sym (append_assoc (line_of first) (removals_text before) left) ∙ same) in
    let (others, joined, rest) = shared_front before all left (lawful_rest first before are) (lawful_rest one all also) lines.1 in
    (others, ap (λ (l : List Removal). one ∷ l) joined ∙ ap (λ (r : Removal). r ∷ (before ++ others)) (sym lines.0), rest)

-- removals are determined by their text
pub same_text : (one other : List Removal) → AreRemovals one → AreRemovals other → removals_text one ≡ removals_text other → one ≡ other
same_text one other are also same =
    let (others, joined, rest) = shared_front one other [] are also (append-nil (removals_text one) ∙ same) in
    sym (joined ∙ ap (λ l. one ++ l) (none others rest) ∙ append-nil one)
  where
    none : (others : List Removal) → [] ≡ removals_text others → others ≡ []
    none [] same = refl
    none (first ∷ others) same = let size = some_line first (removals_text others) in absurd (omega (arith, ap length same))

-- the text of removals has no fault
pub no_fault : (bytes : List ℕ) (line : ℕ) (removals : List Removal) → IsFaultAt bytes line → AreRemovals removals → ¬ (bytes ≡ removals_text removals)
no_fault bytes line removals fault are is =
    let (others, joined, rest) = shared_front fault.before removals fault.left fault.lawful are (sym fault.joined ∙ is) in
    next others joined rest
  where
    next : (others : List Removal) → removals ≡ fault.before ++ others → fault.left ≡ removals_text others → ⊥
    next [] joined rest = omega (arith, fault.some_byte, ap length rest)
    next (one ∷ others) joined rest = fault.none one (removals_text others) rest (lawful_front fault.before one others (subst AreRemovals joined are))

-- the next line is no removal's
pub fault_none : (before : List Removal) (left : List ℕ) → ((removal : Removal) (rest : List ℕ) → IsRemoval removal → left ≢ line_of removal ++ rest) → (removal : Removal) (rest : List ℕ) → left ≡ line_of removal ++ rest → ¬ (AreRemovals (before ++ removal ∷ []))
fault_none before left none removal rest is are = none removal rest (last_lawful before removal are).0 is

-- the next line has a name that is not above those before it
pub fault_order : (before : List Removal) (left : List ℕ) (one : Removal) (next : List ℕ) → IsRemoval one → left ≡ line_of one ++ next → ¬ (All (λ other. slice_cmp nat_cmp other.name one.name ≡ Less) before) → (removal : Removal) (rest : List ℕ) → left ≡ line_of removal ++ rest → ¬ (AreRemovals (before ++ removal ∷ []))
fault_order before left one next is joined not removal rest also are =
    let last = last_lawful before removal are in
    let same = same_line removal one rest next last.0 is (sym also ∙ joined) in
    not (subst (λ (r : Removal). All (λ (other : Removal). slice_cmp nat_cmp other.name r.name ≡ Less) before) same.0 last.1)

-- all is read
pub read_all : (bytes : List ℕ) (removals : List Removal) (left : List ℕ) → bytes ≡ removals_text removals ++ left → length left ≡ 0 → bytes ≡ removals_text removals
read_all bytes removals [] joined empty = joined ∙ append-nil (removals_text removals)
read_all bytes removals (byte ∷ left) joined empty = absurd (omega arith)

pub fault_here : (bytes : List ℕ) (before : List Removal) (left : List ℕ) (count : ℕ) → AreRemovals before → bytes ≡ removals_text before ++ left → count ≡ length before → 0 < length left
    → ((removal : Removal) (rest : List ℕ) → left ≡ line_of removal ++ rest → ¬ (AreRemovals (before ++ removal ∷ []))) → IsFaultAt bytes (count + 1)
fault_here bytes before left count lawful joined counted some none =
    record { before = before; left = left; lawful = lawful; joined = joined; numbered = omega arith; some_byte = some; none = none }

-- ---- writing

pub text_begun : {Y : Type 0} (text : List ℕ) (left entries : List (String Y × ℕ)) (removals : List Removal) → text ≡ [] → left ≡ entries → removals_of entries ≡ removals → text ++ removals_text (removals_of left) ≡ removals_text removals
text_begun {Y} text left entries removals empty whole seen = ap (λ t. t ++ removals_text (removals_of left)) empty ∙ ap (λ (l : List (String Y × ℕ)). removals_text (removals_of l)) whole ∙ ap removals_text seen

-- one more line is written
pub text_written : {Y : Type 0} (old new : List ℕ) (left next : List (String Y × ℕ)) (key : String Y) (bound : ℕ) (all : List ℕ) → left ≡ (key, bound) ∷ next → new ≡ old ++ (decimal bound ++ 9 ∷ (string_bytes key ++ 10 ∷ []))
    → old ++ removals_text (removals_of left) ≡ all → new ++ removals_text (removals_of next) ≡ all
text_written {Y} old new left next key bound all is more before =
    let line = decimal bound ++ 9 ∷ (string_bytes key ++ 10 ∷ []) in
    ap (λ t. t ++ removals_text (removals_of next)) more
    ∙ append_assoc old line (removals_text (removals_of next))
    ∙ ap (λ (l : List (String Y × ℕ)). old ++ removals_text (removals_of l)) (sym is)
    ∙ before

-- all is written
pub text_ended : {Y : Type 0} (text : List ℕ) (left : List (String Y × ℕ)) (all : List ℕ) → text ++ removals_text (removals_of left) ≡ all → left ≡ [] → text ≡ all
text_ended {Y} text left all before none = sym (append-nil text) ∙ ap (λ (l : List (String Y × ℕ)). text ++ removals_text (removals_of l)) (sym none) ∙ before

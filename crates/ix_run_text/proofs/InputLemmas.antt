-- What an input has left, from call to call.
use Rattle.std.proofs.Common.{◌≡◌, ℕ, suc, ◌+◌, ◌-◌, ◌<◌, ◌≤◌, List, [], ◌∷◌, ◌++◌, Option, Some, None, length, take, drop, get_or, refl, sym, ap, ◌∙◌, subst, arith, take-append-drop, zero, nat_lt, MatchBool}
use Rattle.std.proofs.lemmas.List.{drop_more, get_or-take, length-take, length-drop, nil_from_length, get_or_read, drop-take, take-take, drop-drop}
use Rattle.std.proofs.lemmas.Bool.Decides.{nat_tests}
use Rattle.std.proofs.KnownBytes.{Consumes-trans, Keeps-refl, prepend_known-read, prepend_known-nil}
use Rattle.std.specs.Io.KnownBytes.{Consumes, IsAtEnd, Keeps, prepend_known}

-- what stands in a buffer between two places
abbrev pub held : List ℕ → ℕ → ℕ → List ℕ
held buffer start end = drop start (take end buffer)

pub held-none : (buffer : List ℕ) (start end : ℕ) → end ≤ start → held buffer start end ≡ []
held-none buffer start end le = nil_from_length (held buffer start end) (omega (arith, length-drop start (take end buffer), length-take end buffer))

-- what keeps its bytes consumes none
pub Consumes-from_keeps : (a b : Option (List ℕ)) → Keeps a b → Consumes a b []
Consumes-from_keeps None b kept = tt
Consumes-from_keeps (Some x) None kept = absurd kept
Consumes-from_keeps (Some x) (Some y) kept = sym kept

pub held-zero : (buffer : List ℕ) (known : Option (List ℕ)) → prepend_known (held buffer 0 0) known ≡ known
held-zero buffer known = ap (λ (bytes : List ℕ). prepend_known bytes known) (held-none buffer 0 0 (omega arith)) ∙ prepend_known-nil known

-- the byte at the front of what is held
pub held-byte : (buffer : List ℕ) (start end : ℕ) → start < end → end ≤ length buffer → held buffer start end ≡ get_or buffer start 0 ∷ held buffer (start + 1) end
held-byte buffer start end lt le =
    drop_more (take end buffer) start 0 (omega (arith, length-take end buffer))
    ∙ ap (λ (byte : ℕ). byte ∷ held buffer (start + 1) end) (get_or-take end buffer start 0 lt)

-- what is held loses its front
pub held-moved : (known : Option (List ℕ)) (old front new : List ℕ) → old ≡ front ++ new → Consumes (prepend_known old known) (prepend_known new known) front
held-moved known old front new e = (prepend_known-read (prepend_known old known) known old new front (⊥) (Keeps-refl (prepend_known old known)) e (λ no. absurd no)).0

pub drop-nothing : (xs : List ℕ) → drop 0 xs ≡ xs
drop-nothing [] = refl
drop-nothing (x ∷ xs) = refl

-- where nothing was held, what was read is held
pub held-filled : (old new : Option (List ℕ)) (before buffer after : List ℕ) (start end count : ℕ) → end ≤ start → after ≡ buffer → Consumes old new (take count buffer)
    → Keeps (prepend_known (held before start end) old) (prepend_known (held after 0 count) new)
held-filled None new before buffer after start end count le same taken = tt
held-filled (Some x) None before buffer after start end count le same taken = absurd taken
held-filled (Some x) (Some y) before buffer after start end count le same taken =
    ap (λ (bytes : List ℕ). bytes ++ y) (drop-nothing (take count after) ∙ ap (λ (bytes : List ℕ). take count bytes) same) ∙ sym taken ∙ ap (λ (bytes : List ℕ). bytes ++ x) (sym (held-none before start end le))

-- a read of no bytes is the end
pub found_or_ended : (count : ℕ) (buffer : List ℕ) (known : Option (List ℕ)) → (count ≡ 0 → IsAtEnd known)
    → MatchBool (nat_lt 0 count) (0 < count) (IsAtEnd (prepend_known (held buffer 0 count) known))
found_or_ended zero buffer known end = subst IsAtEnd (sym (held-zero buffer known)) (end refl)
found_or_ended (suc count) buffer known end = grind (arith, nat_tests)

first_taken : (known : Option (List ℕ)) (buffer : List ℕ) (start end byte : ℕ) (before : Option (List ℕ)) → Keeps before (prepend_known (held buffer start end) known)
    → start < end → end ≤ length buffer → byte ≡ get_or buffer start byte → Consumes before (prepend_known (held buffer (start + 1) end) known) (byte ∷ [])
first_taken known buffer start end byte before kept lt le is =
    let same : byte ≡ get_or buffer start 0 = get_or_read buffer start byte (omega arith) is 0 in
    let e : held buffer start end ≡ (byte ∷ []) ++ held buffer (start + 1) end = held-byte buffer start end lt le ∙ ap (λ (b : ℕ). b ∷ held buffer (start + 1) end) (sym same) in
    Consumes-trans before (prepend_known (held buffer start end) known) (prepend_known (held buffer (start + 1) end) known) [] (byte ∷ []) (Consumes-from_keeps before (prepend_known (held buffer start end) known) kept) (held-moved known (held buffer start end) (byte ∷ []) (held buffer (start + 1) end) e)

-- one byte is taken
pub byte_taken : (known : Option (List ℕ)) (buffer : List ℕ) (start next end byte : ℕ) (before : Option (List ℕ)) → Keeps before (prepend_known (held buffer start end) known)
    → start < end → end ≤ length buffer → byte ≡ get_or buffer start byte → next ≡ start + 1 → Consumes before (prepend_known (held buffer next end) known) (byte ∷ [])
byte_taken known buffer start next end byte before kept lt le is one =
    subst (λ (place : ℕ). Consumes before (prepend_known (held buffer place end) known) (byte ∷ [])) (sym one) (first_taken known buffer start end byte before kept lt le is)

-- a front of what is held, as the slice of the buffer that it is
pub held-front : (buffer : List ℕ) (start end count : ℕ) → start + count ≤ end → take ((start + count) - start) (drop start buffer) ≡ take count (held buffer start end)
held-front buffer start end count le =
    let n : (start + count) - start ≡ count = omega arith in
    rw n (sym (sym (drop-take start count (take end buffer)) ∙ ap (drop start) (take-take (start + count) end buffer le) ∙ drop-take start count buffer))

-- and what is held behind it
held-parts : (buffer : List ℕ) (start end count : ℕ) → held buffer start end ≡ take count (held buffer start end) ++ held buffer (start + count) end
held-parts buffer start end count =
    sym (take-append-drop count (held buffer start end)) ∙ ap (λ (xs : List ℕ). take count (held buffer start end) ++ xs) (drop-drop count start (take end buffer))

pub held-range : (buffer : List ℕ) (start end count : ℕ) → start + count ≤ end
    → held buffer start end ≡ take ((start + count) - start) (drop start buffer) ++ held buffer (start + count) end
held-range buffer start end count le =
    held-parts buffer start end count ∙ ap (λ (xs : List ℕ). xs ++ held buffer (start + count) end) (sym (held-front buffer start end count le))

-- the front of what is held is taken
pub front_taken : (known : Option (List ℕ)) (buffer : List ℕ) (start end count : ℕ)
    → Consumes (prepend_known (held buffer start end) known) (prepend_known (held buffer (start + count) end) known) (take count (held buffer start end))
front_taken known buffer start end count =
    held-moved known (held buffer start end) (take count (held buffer start end)) (held buffer (start + count) end) (held-parts buffer start end count)

pub length-range : (buffer : List ℕ) (start end count : ℕ) → start + count ≤ end → end ≤ length buffer → length (take ((start + count) - start) (drop start buffer)) ≡ count
length-range buffer start end count le within = omega (arith, length-take ((start + count) - start) (drop start buffer), length-drop start buffer)

-- several bytes are taken
pub part_taken : (known : Option (List ℕ)) (buffer : List ℕ) (start end count : ℕ) (before : Option (List ℕ)) → Keeps before (prepend_known (held buffer start end) known)
    → start + count ≤ end → end ≤ length buffer → Consumes before (prepend_known (held buffer (start + count) end) known) (take ((start + count) - start) (drop start buffer))
part_taken known buffer start end count before kept le within =
    let part = take ((start + count) - start) (drop start buffer) in
    Consumes-trans before (prepend_known (held buffer start end) known) (prepend_known (held buffer (start + count) end) known) [] part
    (Consumes-from_keeps before (prepend_known (held buffer start end) known) kept)
    (held-moved known (held buffer start end) part (held buffer (start + count) end) (held-range buffer start end count le))

-- what is held, as the slice of the buffer that it is
pub held-slice : (buffer : List ℕ) (start end : ℕ) → start ≤ end → take (end - start) (drop start buffer) ≡ held buffer start end
held-slice buffer start end le =
    let n : start + (end - start) ≡ end = omega arith in
    sym (ap (λ (k : ℕ). drop start (take k buffer)) (sym n) ∙ drop-take start (end - start) buffer)

-- what begins what is held is taken
pub code_taken : (known : Option (List ℕ)) (buffer code : List ℕ) (start end count : ℕ) → start ≤ end → end ≤ length buffer → count ≡ length code
    → take (end - start) (drop start buffer) ≡ code ++ drop count (take (end - start) (drop start buffer))
    → Consumes (prepend_known (held buffer start end) known) (prepend_known (held buffer (start + count) end) known) code
code_taken known buffer code start end count le within len front =
    let all = sym (held-slice buffer start end le) in
    held-moved known (held buffer start end) code (held buffer (start + count) end)
    (all ∙ front ∙ ap (λ (xs : List ℕ). code ++ drop count xs) (sym all) ∙ ap (λ (xs : List ℕ). code ++ xs) (drop-drop count start (take end buffer)))

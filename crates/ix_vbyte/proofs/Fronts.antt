-- What stands at the front of some bytes, byte by byte, and that it is one thing at most.
use Rattle.std.proofs.Common.{◌≡◌, ◌≢◌, ℕ, zero, suc, ◌+◌, ◌-◌, ◌*◌, ◌%◌, ◌^◌, ◌<◌, ◌≤◌, List, [], ◌∷◌, ◌++◌, length, take, drop, get_or, Result, Ok, Err, refl, sym, ap, ap₂, ◌∙◌, subst, arith, rules, lit<, add-one, zero-lt-suc, ◌↔◌, IsErr, IfOk, slice_get, Some, None, take-append-drop}
use Rattle.std.proofs.lemmas.List.{append_assoc, drop_at, take_rest, take_more, drop_more, take_at, take_all, length-take-le, length-append}
use Rattle.std.proofs.lemmas.List.Elements.{All-nil, All-more, All-head, All-tail}
use Rattle.ix_vbyte.specs.Code.{value_of, AreUnmarked, IsCode, code_of}
use Rattle.ix_vbyte.specs.Reading.{StartsWithCode, StartsWithZero, IsTooBig, IsCut}
use Rattle.ix_vbyte.specs.Decoded.{HasFault, Finds}
use Rattle.ix_vbyte.specs.Walking.{BeginsWithNumber, ReadsNumber}
use Rattle.ix_vbyte.specs.declared.errors.VbError.{VbError}
use Rattle.ix_vbyte.specs.declared.errors.VbError.TheVariants.{Cut, LeadingZero, TooBig}
use Rattle.ix_vbyte.proofs.Values.{value_of-none, length-code_of, value_of-push, value_of-append_ge, code_of-apart, code_of-code, IsCode-code_of}

-- one byte more was read
value_of-take : (bytes : List ℕ) (place : ℕ) → place < length bytes → value_of (take (place + 1) bytes) ≡ value_of (take place bytes) * 128 + get_or bytes place 0 % 128
value_of-take bytes place within = ap value_of (take_more bytes place 0 within) ∙ value_of-push (take place bytes) (get_or bytes place 0)

first-take : (bytes : List ℕ) (count : ℕ) → slice_get (take (suc count) bytes) 0 ≡ slice_get bytes 0
first-take [] count = refl
first-take (b ∷ bytes) count = refl

-- a marked byte ends a code
starts : (bytes : List ℕ) (place number : ℕ) → place < length bytes → AreUnmarked (take place bytes) → value_of (take place bytes) * 128 + get_or bytes place 0 % 128 ≡ number → number < 2 ^ 32 → 128 ≤ get_or bytes place 0 → get_or bytes place 0 < 256 → slice_get bytes 0 ≢ Some 0 → StartsWithCode bytes number (place + 1)
starts bytes place number within unmarked value fits marked byte no_zero = record {
  within = omega arith;
  code = record {
    fits = fits;
    value = value_of-take bytes place within ∙ value;
    ends = record {
      front = take place bytes;
      last = get_or bytes place 0;
      parts = take_more bytes place 0 within;
      unmarked = unmarked;
      marked = marked;
      byte = byte;
    };
    shortest = λ h. no_zero (sym (first-take bytes place) ∙ ap (λ n. slice_get (take n bytes) 0) (sym (add-one place)) ∙ h);
  };
}

-- a byte that 32 bits have no room for
too_big : (bytes : List ℕ) (place : ℕ) → place < length bytes → AreUnmarked (take place bytes) → 2 ^ 25 ≤ value_of (take place bytes) → slice_get bytes 0 ≢ Some 0 → IsTooBig bytes
too_big bytes place within unmarked above no_zero = record {
  front = take place bytes;
  last = get_or bytes place 0;
  rest = drop (place + 1) bytes;
  parts = sym (take-append-drop place bytes) ∙ ap (λ xs. take place bytes ++ xs) (drop_more bytes place 0 within);
  unmarked = unmarked;
  above = omega (arith, value_of-push (take place bytes) (get_or bytes place 0));
  no_zero = no_zero;
}

-- no front of unmarked bytes goes past a marked one
no_longer : (front more : List ℕ) (last final : ℕ) (xs ys : List ℕ) → AreUnmarked more → 128 ≤ last → front ++ last ∷ xs ≡ more ++ final ∷ ys → (rest : List ℕ) × (front ++ last ∷ [] ≡ (more ++ final ∷ []) ++ rest)
no_longer [] [] last final xs ys v m e = ([], ap (λ x. x ∷ []) (let same : last ≡ final = cc in same))
no_longer [] (c ∷ cs) last final xs ys v m e =
    let same : last ≡ c = cc in
    let low : c < 128 = All-head (λ x. x < 128) c cs v in
    absurd (omega arith)
no_longer (b ∷ bs) [] last final xs ys v m e = (bs ++ last ∷ [], ap (λ x. x ∷ (bs ++ last ∷ [])) (let same : b ≡ final = cc in same))
no_longer (b ∷ bs) (c ∷ cs) last final xs ys v m e =
    let same : b ≡ c = cc in
    let rests : bs ++ last ∷ xs ≡ cs ++ final ∷ ys = cc in
    let r = no_longer bs cs last final xs ys (All-tail (λ x. x < 128) c cs v) m rests in
    (r.0, ap₂ (λ x zs. x ∷ zs) same r.1)

-- a code at the front, as its bytes and what follows
code_split : (bytes : List ℕ) (number count : ℕ) (s : StartsWithCode bytes number count) → bytes ≡ s.code.ends.front ++ s.code.ends.last ∷ drop count bytes
code_split bytes number count s =
    sym (take-append-drop count bytes) ∙ ap (λ xs. xs ++ drop count bytes) s.code.ends.parts
    ∙ append_assoc s.code.ends.front (s.code.ends.last ∷ []) (drop count bytes)

no_marked : (front : List ℕ) (last : ℕ) (rest : List ℕ) → AreUnmarked (front ++ last ∷ rest) → last < 128
no_marked [] last rest u = All-head (λ x. x < 128) last rest u
no_marked (b ∷ bs) last rest u = no_marked bs last rest (All-tail (λ x. x < 128) b (bs ++ last ∷ rest) u)

no_last : (front : List ℕ) (last : ℕ) → [] ≡ front ++ last ∷ [] → ⊥
no_last [] last e = cc
no_last (b ∷ bs) last e = cc

-- a code excludes each fault
code_not_zero : (bytes : List ℕ) (number count : ℕ) → StartsWithCode bytes number count → StartsWithZero bytes → ⊥
code_not_zero bytes number zero s z = no_last s.code.ends.front s.code.ends.last s.code.ends.parts
code_not_zero bytes number (suc count) s z = s.code.shortest (first-take bytes count ∙ z)

code_not_cut : (bytes : List ℕ) (number count : ℕ) → StartsWithCode bytes number count → IsCut bytes → ⊥
code_not_cut bytes number count s c =
    let low : s.code.ends.last < 128 = no_marked s.code.ends.front s.code.ends.last (drop count bytes) (subst AreUnmarked (code_split bytes number count s) c.unmarked) in
    let high : 128 ≤ s.code.ends.last = s.code.ends.marked in
    omega arith

code_not_big : (bytes : List ℕ) (number count : ℕ) → StartsWithCode bytes number count → IsTooBig bytes → ⊥
code_not_big bytes number count s big =
    let r = no_longer s.code.ends.front big.front s.code.ends.last big.last (drop count bytes) big.rest big.unmarked s.code.ends.marked (sym (code_split bytes number count s) ∙ big.parts) in
    let same : number ≡ value_of ((big.front ++ big.last ∷ []) ++ r.0) = sym s.code.value ∙ ap value_of (s.code.ends.parts ∙ r.1) in
    let fits : number < 2 ^ 32 = s.code.fits in
    let above : 2 ^ 32 ≤ value_of (big.front ++ big.last ∷ []) = big.above in
    omega (arith, value_of-append_ge (big.front ++ big.last ∷ []) r.0)

big_not_cut : (bytes : List ℕ) → IsTooBig bytes → IsCut bytes → ⊥
big_not_cut bytes big c =
    let same : value_of bytes ≡ value_of ((big.front ++ big.last ∷ []) ++ big.rest) = ap value_of (big.parts ∙ sym (append_assoc big.front (big.last ∷ []) big.rest)) in
    let fits : value_of bytes < 2 ^ 32 = c.fits in
    let above : 2 ^ 32 ≤ value_of (big.front ++ big.last ∷ []) = big.above in
    omega (arith, value_of-append_ge (big.front ++ big.last ∷ []) big.rest)

-- the bytes of a code are as many as the function's
pub starts_as : (bytes : List ℕ) (number count : ℕ) → StartsWithCode bytes number count → (bytes ≡ code_of number ++ drop count bytes) × (count ≡ length (code_of number))
starts_as bytes number count s =
    let code : take count bytes ≡ code_of number = code_of-code number (take count bytes) s.code in
    (sym (take-append-drop count bytes) ∙ ap (λ xs. xs ++ drop count bytes) code, sym (length-take-le count bytes s.within) ∙ ap length code)

-- and what begins with the function's code begins with a code
pub starts_from : (bytes : List ℕ) (number : ℕ) (rest : List ℕ) → number < 2 ^ 32 → bytes ≡ code_of number ++ rest → StartsWithCode bytes number (length (code_of number))
starts_from bytes number rest fits e =
    let whole : take (length (code_of number)) bytes ≡ code_of number = ap (λ xs. take (length (code_of number)) xs) e ∙ take_at (code_of number) rest (length (code_of number)) refl in
    record {
      within = omega (arith, ap length e, length-append (code_of number) rest);
      code = subst (IsCode number) (sym whole) (IsCode-code_of number fits);
    }

pub same_code : (bytes : List ℕ) (m n j k : ℕ) → StartsWithCode bytes m j → StartsWithCode bytes n k → (m ≡ n) × (j ≡ k)
same_code bytes m n j k s t =
    let a = starts_as bytes m j s in
    let b = starts_as bytes n k t in
    let same = (code_of-apart m n (drop j bytes) (drop k bytes) (sym a.0 ∙ b.0)).0 in
    (same, a.1 ∙ ap (λ x. length (code_of x)) same ∙ sym b.1)

fault_once : (bytes : List ℕ) (e f : VbError) → HasFault bytes e → HasFault bytes f → e ≡ f
fault_once bytes Cut Cut h k = refl
fault_once bytes Cut LeadingZero h k = absurd (h.no_zero k)
fault_once bytes Cut TooBig h k = absurd (big_not_cut bytes k h)
fault_once bytes LeadingZero Cut h k = absurd (k.no_zero h)
fault_once bytes LeadingZero LeadingZero h k = refl
fault_once bytes LeadingZero TooBig h k = absurd (k.no_zero h)
fault_once bytes TooBig Cut h k = absurd (big_not_cut bytes h k)
fault_once bytes TooBig LeadingZero h k = absurd (h.no_zero k)
fault_once bytes TooBig TooBig h k = refl

pub code_or_fault : (bytes : List ℕ) (number count : ℕ) (fault : VbError) → StartsWithCode bytes number count → HasFault bytes fault → ⊥
code_or_fault bytes number count Cut s h = code_not_cut bytes number count s h
code_or_fault bytes number count LeadingZero s h = code_not_zero bytes number count s h
code_or_fault bytes number count TooBig s h = code_not_big bytes number count s h

-- one thing at most is found
pub found_once : (bytes : List ℕ) (r s : Result (ℕ × ℕ) VbError) → Finds bytes r → Finds bytes s → r ≡ s
found_once bytes (Ok a) (Ok b) h k = let same = same_code bytes a.0 b.0 a.1 b.1 h k in ap₂ (λ n count. Ok (n, count)) same.0 same.1
found_once bytes (Ok a) (Err f) h k = absurd (code_or_fault bytes a.0 a.1 f h k)
found_once bytes (Err e) (Ok b) h k = absurd (code_or_fault bytes b.0 b.1 e k h)
found_once bytes (Err e) (Err f) h k = ap (λ x. Err x) (fault_once bytes e f h k)

-- no byte at all
pub cut_at_once : (bytes : List ℕ) → slice_get bytes 0 ≡ None → IsCut bytes
cut_at_once [] none = record { unmarked = All-nil (λ x. x < 128); fits = rw value_of-none (lit< tt); no_zero = λ h. cc }
cut_at_once (b ∷ bytes) none = absurd (cc)

-- the first byte is not 0
pub no_zero : (bytes : List ℕ) (byte : ℕ) → slice_get bytes 0 ≡ Some byte → (byte ≡ 0 → ⊥) → slice_get bytes 0 ≢ Some 0
no_zero bytes byte some other h = let same : byte ≡ 0 = cc in other same

-- the first byte is a code
pub read_first : (bytes : List ℕ) (byte low : ℕ) → slice_get bytes 0 ≡ Some byte → 128 ≤ byte → get_or bytes 0 0 < 256 → low ≡ byte % 128 → StartsWithCode bytes low 1
read_first [] byte low some marked fits is = absurd (cc)
read_first (b ∷ bytes) byte low some marked fits is =
    let same : b ≡ byte = cc in
    let nothing : value_of [] ≡ 0 = value_of-none in
    starts (b ∷ bytes) 0 low (zero-lt-suc (length bytes)) (All-nil (λ x. x < 128)) (omega arith) (omega arith) (omega arith) fits (λ h. let z : b ≡ 0 = cc in absurd (omega arith))

-- what a reading that finds what is there tells a caller
pub found_code : (bytes : List ℕ) (r : Result (ℕ × ℕ) VbError) → Finds bytes r → (n count : ℕ) → (r ≡ Ok (n, count)) ↔ StartsWithCode bytes n count
found_code bytes r f n count = (λ e. subst (Finds bytes) e f, λ s. found_once bytes r (Ok (n, count)) f s)

pub found_fault : (bytes : List ℕ) (r : Result (ℕ × ℕ) VbError) (fault : VbError) → Finds bytes r → (r ≡ Err fault) ↔ HasFault bytes fault
found_fault bytes r fault f = (λ e. subst (Finds bytes) e f, λ h. found_once bytes r (Err fault) f h)

pub found_no_code : (bytes : List ℕ) (r : Result (ℕ × ℕ) VbError) → Finds bytes r → IsErr r ↔ ((n count : ℕ) → ¬ StartsWithCode bytes n count)
found_no_code bytes (Ok a) f = (λ h. absurd (search rules), λ none. absurd (none a.0 a.1 f))
found_no_code bytes (Err e) f = (λ h n count s. code_or_fault bytes n count e s f, λ none. search rules)

pub found_front : (bytes : List ℕ) (r : Result (ℕ × ℕ) VbError) → Finds bytes r → IfOk r (λ a. bytes ≡ code_of a.0 ++ drop a.1 bytes)
found_front bytes (Ok a) f = (starts_as bytes a.0 a.1 f).0
found_front bytes (Err e) f = tt

pub found_count : (bytes : List ℕ) (r : Result (ℕ × ℕ) VbError) → Finds bytes r → IfOk r (λ a. a.1 ≡ length (code_of a.0))
found_count bytes (Ok a) f = (starts_as bytes a.0 a.1 f).1
found_count bytes (Err e) f = tt

pub found_size : (bytes : List ℕ) (r : Result (ℕ × ℕ) VbError) → Finds bytes r → IfOk r (λ a. (0 < a.1) × (a.1 ≤ 5) × (a.1 ≤ length bytes))
found_size bytes (Ok a) f =
    let count : a.1 ≡ length (code_of a.0) = (starts_as bytes a.0 a.1 f).1 in
    let within : a.1 ≤ length bytes = f.within in
    let bounds = length-code_of a.0 f.code.fits in
    (omega arith, omega arith, within)
found_size bytes (Err e) f = tt

-- the bytes below `place` neither end a code nor begin with 00, and stand for `number`
pub record HasRead (bytes : List ℕ) (place number : ℕ) : Type 0 where
  pub unmarked : AreUnmarked (take place bytes)
  pub value : value_of (take place bytes) ≡ number
  pub no_zero : slice_get bytes 0 ≢ Some 0

pub read_none : (bytes : List ℕ) → slice_get bytes 0 ≢ Some 0 → HasRead bytes 0 0
read_none bytes no_zero = record { unmarked = All-nil (λ byte. byte < 128); value = value_of-none; no_zero = no_zero }

pub read_more : (bytes : List ℕ) (place number low : ℕ) → HasRead bytes place number → place < length bytes → get_or bytes place 0 < 128 → low ≡ get_or bytes place 0 % 128 → HasRead bytes (place + 1) (number * 128 + low)
read_more bytes place number low so_far within unmarked is = record {
  unmarked = All-more (λ byte. byte < 128) bytes place 0 within so_far.unmarked unmarked;
  value = value_of-take bytes place within ∙ ap₂ (λ n m. n * 128 + m) so_far.value (sym is);
  no_zero = so_far.no_zero;
}

pub read_code : (bytes : List ℕ) (place number low : ℕ) → HasRead bytes place number → place < length bytes → number < 2 ^ 25 → 128 ≤ get_or bytes place 0 → get_or bytes place 0 < 256 → low ≡ get_or bytes place 0 % 128 → StartsWithCode bytes (number * 128 + low) (place + 1)
read_code bytes place number low so_far within fits marked byte is =
    starts bytes place (number * 128 + low) within so_far.unmarked (ap₂ (λ n m. n * 128 + m) so_far.value (sym is)) (omega arith) marked byte so_far.no_zero

pub read_big : (bytes : List ℕ) (place number : ℕ) → HasRead bytes place number → place < length bytes → 2 ^ 25 ≤ number → IsTooBig bytes
read_big bytes place number so_far within above =
    let value : value_of (take place bytes) ≡ number = so_far.value in
    too_big bytes place within so_far.unmarked (omega arith) so_far.no_zero

pub read_all : (bytes : List ℕ) (place number : ℕ) → HasRead bytes place number → length bytes ≤ place → number < 2 ^ 32 → IsCut bytes
read_all bytes place number so_far end fits =
    let value : value_of (take place bytes) ≡ number = so_far.value in
    let whole : take place bytes ≡ bytes = take_all place bytes end in
    record {
      unmarked = subst AreUnmarked whole so_far.unmarked;
      fits = subst (λ xs. value_of xs < 2 ^ 32) whole (omega arith);
      no_zero = so_far.no_zero;
    }

pub ruleset reads = (cut_at_once, no_zero, read_none, read_more, read_code, read_big, read_all)

-- a code that was found is the one that was written
pub reads_from : (bytes : List ℕ) (number count : ℕ) → StartsWithCode bytes number count → ReadsNumber bytes number (drop count bytes)
reads_from bytes number count starts written others fits coded =
    let same = same_code bytes number written count (length (code_of written)) starts (starts_from bytes written others fits coded) in
    (same.0, ap₂ (λ n xs. drop n xs) same.1 coded ∙ drop_at (code_of written) others (length (code_of written)) refl)

-- a code of one byte
read_one : (bytes : List ℕ) (low : ℕ) → 0 < length bytes → 128 ≤ get_or bytes 0 0 → get_or bytes 0 0 < 256 → low ≡ get_or bytes 0 0 % 128 → StartsWithCode bytes low 1
read_one [] low some marked byte is = absurd (omega arith)
read_one (a ∷ bytes) low some marked byte is = read_first (a ∷ bytes) a low refl marked byte is

pub reads_one : (bytes : List ℕ) (low : ℕ) → 0 < length bytes → 128 ≤ get_or bytes 0 0 → get_or bytes 0 0 < 256 → low ≡ get_or bytes 0 0 % 128 → ReadsNumber bytes low (take (length bytes - 1) (drop 1 bytes))
reads_one bytes low some marked byte is = subst (ReadsNumber bytes low) (sym (take_rest bytes 1)) (reads_from bytes low 1 (read_one bytes low some marked byte is))

-- a code of two bytes
read_two : (bytes : List ℕ) (number : ℕ) → BeginsWithNumber bytes → 1 < length bytes → get_or bytes 0 0 < 128 → 128 ≤ get_or bytes 1 0 → get_or bytes 1 0 < 256 → number ≡ get_or bytes 0 0 * 128 + get_or bytes 1 0 % 128 → StartsWithCode bytes number 2
read_two [] number begins some below marked byte is = absurd (omega arith)
read_two (a ∷ []) number begins some below marked byte is = absurd (omega arith)
read_two (a ∷ b ∷ bytes) number begins some below marked byte is =
    let written = starts_from (a ∷ b ∷ bytes) begins.number begins.rest begins.fits begins.coded in
    let so_far = read_none (a ∷ b ∷ bytes) (λ zero. code_or_fault (a ∷ b ∷ bytes) begins.number (length (code_of begins.number)) LeadingZero written zero) in
    let one = read_more (a ∷ b ∷ bytes) 0 0 (a % 128) so_far (omega arith) below refl in
    let same : (0 * 128 + a % 128) * 128 + b % 128 ≡ number = omega arith in
    subst (λ n. StartsWithCode (a ∷ b ∷ bytes) n 2) same (read_code (a ∷ b ∷ bytes) 1 (0 * 128 + a % 128) (b % 128) one (omega arith) (omega arith) marked byte refl)

pub reads_two : (bytes : List ℕ) (number : ℕ) → BeginsWithNumber bytes → 1 < length bytes → get_or bytes 0 0 < 128 → 128 ≤ get_or bytes 1 0 → get_or bytes 1 0 < 256 → number ≡ get_or bytes 0 0 * 128 + get_or bytes 1 0 % 128 → ReadsNumber bytes number (take (length bytes - 2) (drop 2 bytes))
reads_two bytes number begins some below marked byte is = subst (ReadsNumber bytes number) (sym (take_rest bytes 2)) (reads_from bytes number 2 (read_two bytes number begins some below marked byte is))

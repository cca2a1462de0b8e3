-- How many codes end up to each byte of a word, by a product, and where one of them ends.
use Rattle.std.proofs.Common.{◌≡◌, ℕ, suc, ◌+◌, ◌-◌, ◌*◌, ◌/◌, ◌%◌, ◌^◌, ◌<◌, ◌≤◌, cond, ltb, List, [], ◌∷◌, ◌++◌, length, bit_and, refl, sym, ap, ap₂, ◌∙◌, ⊎_elim, arith, w64}
use Rattle.std.specs.Int.{trailing_zeros}
use Rattle.std.proofs.lemmas.Bool.{lt-ltb, le-ltb, cases_lt}
use Rattle.std.proofs.lemmas.Nat.{and_le_r}
use Rattle.ix_vbyte.specs.Ends.{end_of, ends_by_byte, marks_of}
use Rattle.ix_vbyte.proofs.Ends.{marks_in, first_marks, first_marks_not, end_of-none, marked_first, unmarked_first}
use Rattle.ix_vbyte.proofs.Marks.{bytes_of, masked, low_marks, high_marks, no_marks, first_end}

-- 1 where a code ends in the byte
abbrev pub tick : ℕ → ℕ
tick byte = cond (ltb byte 128) 0 1

tick_low : (byte : ℕ) → byte < 128 → tick byte ≡ 0
tick_low byte low = ap (λ b. cond {A = ℕ} b 0 1) (lt-ltb byte 128 low)

tick_high : (byte : ℕ) → 128 ≤ byte → tick byte ≡ 1
tick_high byte high = ap (λ b. cond {A = ℕ} b 0 1) (le-ltb byte 128 high)

tick_small : (byte : ℕ) → tick byte ≤ 1
tick_small byte =
    ⊎_elim (λ low. let e = tick_low byte low in omega arith) (λ high. let e = tick_high byte high in omega arith) (cases_lt byte 128)

-- the ticks of some bytes, a group of eight bits each
abbrev ticks : List ℕ → ℕ
ticks [] = 0
ticks (byte ∷ bytes) = ticks bytes * 256 + tick byte

marks_are_ticks : (bytes : List ℕ) → marks_of 8 128 bytes ≡ ticks bytes * 128
marks_are_ticks [] = no_marks 8 128
marks_are_ticks (byte ∷ bytes) =
    let rest = marks_are_ticks bytes in
    ⊎_elim
    (λ low. let e = tick_low byte low in let m = low_marks 8 128 byte bytes low in omega arith)
    (λ high. let e = tick_high byte high in let m = high_marks 8 128 byte bytes high in omega arith)
    (cases_lt byte 128)

first_ends : (before byte : ℕ) (bytes : List ℕ) → ends_by_byte before (byte ∷ bytes) ≡ before + tick byte + 256 * ends_by_byte (before + tick byte) bytes
unfolding ends_by_byte
first_ends before byte bytes = refl

no_ends : (before : ℕ) → ends_by_byte before [] ≡ 0
unfolding ends_by_byte
no_ends before = refl

-- of eight ticks
product : (a b c d e f g h : ℕ) → a ≤ 1 → b ≤ 1 → c ≤ 1 → d ≤ 1 → e ≤ 1 → f ≤ 1 → g ≤ 1 → h ≤ 1
    → ((((((((0 * 256 + h) * 256 + g) * 256 + f) * 256 + e) * 256 + d) * 256 + c) * 256 + b) * 256 + a) * 0x0101_0101_0101_0101 % 2 ^ 64
    ≡ a + 256 * (a + b + 256 * (a + b + c + 256 * (a + b + c + d + 256 * (a + b + c + d + e + 256 * (a + b + c + d + e + f + 256 * (a + b + c + d + e + f + g + 256 * (a + b + c + d + e + f + g + h)))))))
product a b c d e f g h la lb lc ld le lf lg lh = omega arith

-- eight bytes
pub record Eight (word : List ℕ) : Type 0 where
  pub a : ℕ
  pub b : ℕ
  pub c : ℕ
  pub d : ℕ
  pub e : ℕ
  pub f : ℕ
  pub g : ℕ
  pub h : ℕ
  pub is : word ≡ a ∷ b ∷ c ∷ d ∷ e ∷ f ∷ g ∷ h ∷ []

eight : (word : List ℕ) → length word ≡ 8 → Eight word
eight (a ∷ b ∷ c ∷ d ∷ e ∷ f ∷ g ∷ h ∷ []) long = record { a = a; b = b; c = c; d = d; e = e; f = f; g = g; h = h; is = refl }
eight [] long = absurd (omega arith)
eight (a ∷ []) long = absurd (omega arith)
eight (a ∷ b ∷ []) long = absurd (omega arith)
eight (a ∷ b ∷ c ∷ []) long = absurd (omega arith)
eight (a ∷ b ∷ c ∷ d ∷ []) long = absurd (omega arith)
eight (a ∷ b ∷ c ∷ d ∷ e ∷ []) long = absurd (omega arith)
eight (a ∷ b ∷ c ∷ d ∷ e ∷ f ∷ []) long = absurd (omega arith)
eight (a ∷ b ∷ c ∷ d ∷ e ∷ f ∷ g ∷ []) long = absurd (omega arith)
eight (a ∷ b ∷ c ∷ d ∷ e ∷ f ∷ g ∷ h ∷ i ∷ rest) long = absurd (omega arith)

ends_of_eight : (a b c d e f g h : ℕ) → ends_by_byte 0 (a ∷ b ∷ c ∷ d ∷ e ∷ f ∷ g ∷ h ∷ []) ≡ tick a + 256 * (tick a + tick b + 256 * (tick a + tick b + tick c + 256 * (tick a + tick b + tick c + tick d + 256 * (tick a + tick b + tick c + tick d + tick e + 256 * (tick a + tick b + tick c + tick d + tick e + tick f + 256 * (tick a + tick b + tick c + tick d + tick e + tick f + tick g + 256 * (tick a + tick b + tick c + tick d + tick e + tick f + tick g + tick h)))))))
ends_of_eight a b c d e f g h =
    let e0 = first_ends 0 a (b ∷ c ∷ d ∷ e ∷ f ∷ g ∷ h ∷ []) in
    let e1 = first_ends (0 + tick a) b (c ∷ d ∷ e ∷ f ∷ g ∷ h ∷ []) in
    let e2 = first_ends ((0 + tick a) + tick b) c (d ∷ e ∷ f ∷ g ∷ h ∷ []) in
    let e3 = first_ends (((0 + tick a) + tick b) + tick c) d (e ∷ f ∷ g ∷ h ∷ []) in
    let e4 = first_ends ((((0 + tick a) + tick b) + tick c) + tick d) e (f ∷ g ∷ h ∷ []) in
    let e5 = first_ends (((((0 + tick a) + tick b) + tick c) + tick d) + tick e) f (g ∷ h ∷ []) in
    let e6 = first_ends ((((((0 + tick a) + tick b) + tick c) + tick d) + tick e) + tick f) g (h ∷ []) in
    let e7 = first_ends (((((((0 + tick a) + tick b) + tick c) + tick d) + tick e) + tick f) + tick g) h [] in
    let e8 = no_ends ((((((((0 + tick a) + tick b) + tick c) + tick d) + tick e) + tick f) + tick g) + tick h) in
    omega arith

ticked : (byte : ℕ) (bytes : List ℕ) → marks_in (byte ∷ bytes) ≡ tick byte + marks_in bytes
ticked byte bytes =
    ⊎_elim
    (λ low. let t = tick_low byte low in let m = first_marks_not byte bytes low in omega arith)
    (λ high. let t = tick_high byte high in let m = first_marks byte bytes high in omega arith)
    (cases_lt byte 128)

marks_in_eight : (a b c d e f g h : ℕ) → marks_in (a ∷ b ∷ c ∷ d ∷ e ∷ f ∷ g ∷ h ∷ []) ≡ tick a + tick b + tick c + tick d + tick e + tick f + tick g + tick h
marks_in_eight a b c d e f g h =
    let m0 = ticked a (b ∷ c ∷ d ∷ e ∷ f ∷ g ∷ h ∷ []) in
    let m1 = ticked b (c ∷ d ∷ e ∷ f ∷ g ∷ h ∷ []) in
    let m2 = ticked c (d ∷ e ∷ f ∷ g ∷ h ∷ []) in
    let m3 = ticked d (e ∷ f ∷ g ∷ h ∷ []) in
    let m4 = ticked e (f ∷ g ∷ h ∷ []) in
    let m5 = ticked f (g ∷ h ∷ []) in
    let m6 = ticked g (h ∷ []) in
    let m7 = ticked h [] in
    omega arith

-- the number that a multiplication gives for eight bytes
pub ends_of_word : (word : List ℕ) → length word ≡ 8 → marks_of 8 128 word / 2 ^ 7 * 0x0101_0101_0101_0101 % 2 ^ 64 ≡ ends_by_byte 0 word
ends_of_word word long =
    let w = eight word long in
    let marks = marks_are_ticks word in
    let whole : marks_of 8 128 word / 2 ^ 7 ≡ ticks word = omega arith in
    ap (λ n. n * 0x0101_0101_0101_0101 % 2 ^ 64) whole
    ∙ ap (λ bytes. ticks bytes * 0x0101_0101_0101_0101 % 2 ^ 64) w.is
    ∙ product (tick w.a) (tick w.b) (tick w.c) (tick w.d) (tick w.e) (tick w.f) (tick w.g) (tick w.h) (tick_small w.a) (tick_small w.b) (tick_small w.c) (tick_small w.d) (tick_small w.e) (tick_small w.f) (tick_small w.g) (tick_small w.h)
    ∙ sym (ap (ends_by_byte 0) w.is ∙ ends_of_eight w.a w.b w.c w.d w.e w.f w.g w.h)

-- how large it is, and its last group
pub record AreEnds (word : List ℕ) (ends : ℕ) : Type 0 where
  pub few : marks_in word ≤ 8
  pub low : ends ≤ 8 * 0x0101_0101_0101_0101
  pub all : ends / 2 ^ 56 ≡ marks_in word

pub are_ends : (word : List ℕ) → length word ≡ 8 → AreEnds word (ends_by_byte 0 word)
are_ends word long =
    let w = eight word long in
    let ends : ends_by_byte 0 word ≡ tick w.a + 256 * (tick w.a + tick w.b + 256 * (tick w.a + tick w.b + tick w.c + 256 * (tick w.a + tick w.b + tick w.c + tick w.d + 256 * (tick w.a + tick w.b + tick w.c + tick w.d + tick w.e + 256 * (tick w.a + tick w.b + tick w.c + tick w.d + tick w.e + tick w.f + 256 * (tick w.a + tick w.b + tick w.c + tick w.d + tick w.e + tick w.f + tick w.g + 256 * (tick w.a + tick w.b + tick w.c + tick w.d + tick w.e + tick w.f + tick w.g + tick w.h))))))) = ap (ends_by_byte 0) w.is ∙ ends_of_eight w.a w.b w.c w.d w.e w.f w.g w.h in
    let marks : marks_in word ≡ tick w.a + tick w.b + tick w.c + tick w.d + tick w.e + tick w.f + tick w.g + tick w.h = ap marks_in w.is ∙ marks_in_eight w.a w.b w.c w.d w.e w.f w.g w.h in
    let s0 = tick_small w.a in
    let s1 = tick_small w.b in
    let s2 = tick_small w.c in
    let s3 = tick_small w.d in
    let s4 = tick_small w.e in
    let s5 = tick_small w.f in
    let s6 = tick_small w.g in
    let s7 = tick_small w.h in
    record { few = omega arith; low = omega arith; all = omega arith }

-- ---- where a code ends
-- by each byte, 128 and how many codes end up to it less the number sought: it has the top bit where as many end
abbrev pub reached : ℕ → ℕ → List ℕ → List ℕ
reached before count [] = []
reached before count (byte ∷ bytes) = (128 + (before + tick byte) - count) ∷ reached (before + tick byte) count bytes

-- the first of them is at the end of the code sought
first_reached : (before count : ℕ) (bytes behind : List ℕ) → before < count → count ≤ before + marks_in bytes
    → end_of 1 (reached before count bytes ++ behind) ≡ end_of (count - before) (bytes ++ behind)
first_reached before count [] behind fewer enough = absurd (let none : marks_in [] ≡ 0 = refl in omega arith)
first_reached before count (byte ∷ bytes) behind fewer enough =
    let marks = ticked byte bytes in
    let more : count - before ≡ suc (count - before - 1) = omega arith in
    ⊎_elim
    (λ low.
    let t = tick_low byte low in
    let again = first_reached (before + tick byte) count bytes behind (omega arith) (omega arith) in
    let same : count - (before + tick byte) ≡ suc (count - before - 1) = omega arith in
    unmarked_first 0 (128 + (before + tick byte) - count) (reached (before + tick byte) count bytes ++ behind) (omega arith)
    ∙ ap suc (again ∙ ap (λ n. end_of n (bytes ++ behind)) same)
    ∙ sym (ap (λ n. end_of n (byte ∷ bytes ++ behind)) more ∙ unmarked_first (count - before - 1) byte (bytes ++ behind) low))
    (λ high.
    let t = tick_high byte high in
    let right = ap (λ n. end_of n (byte ∷ bytes ++ behind)) more ∙ marked_first (count - before - 1) byte (bytes ++ behind) high in
    ⊎_elim
    (λ further.
    let again = first_reached (before + tick byte) count bytes behind further (omega arith) in
    let same : count - (before + tick byte) ≡ count - before - 1 = omega arith in
    unmarked_first 0 (128 + (before + tick byte) - count) (reached (before + tick byte) count bytes ++ behind) (omega arith)
    ∙ ap suc (again ∙ ap (λ n. end_of n (bytes ++ behind)) same)
    ∙ sym right)
    (λ here.
    let last : count - before - 1 ≡ 0 = omega arith in
    marked_first 0 (128 + (before + tick byte) - count) (reached (before + tick byte) count bytes ++ behind) (omega arith)
    ∙ ap suc (end_of-none (reached (before + tick byte) count bytes ++ behind) ∙ sym (end_of-none (bytes ++ behind)))
    ∙ ap (λ n. suc (end_of n (bytes ++ behind))) (sym last)
    ∙ sym right)
    (cases_lt (before + tick byte) count))
    (cases_lt byte 128)

-- the number whose bytes they are
abbrev value : List ℕ → ℕ
value [] = 0
value (byte ∷ bytes) = byte + 256 * value bytes

bytes_reached : (before count : ℕ) (bytes : List ℕ) → before + length bytes < 128 → bytes_of (length bytes) (value (reached before count bytes)) ≡ reached before count bytes
bytes_reached before count [] room = refl
bytes_reached before count (byte ∷ bytes) room =
    let small = tick_small byte in
    let head : 128 + (before + tick byte) - count < 256 = omega arith in
    let first : value (reached before count (byte ∷ bytes)) % 256 ≡ 128 + (before + tick byte) - count = omega arith in
    let rest : value (reached before count (byte ∷ bytes)) / 256 ≡ value (reached (before + tick byte) count bytes) = omega arith in
    ap₂ (λ b bs. b ∷ bs) first (ap (bytes_of (length bytes)) rest ∙ bytes_reached (before + tick byte) count bytes (omega arith))

-- one of them has the top bit
some_reached : (before count : ℕ) (bytes : List ℕ) → before < count → count ≤ before + marks_in bytes → 0 < ticks (reached before count bytes)
some_reached before count [] fewer enough = absurd (let none : marks_in [] ≡ 0 = refl in omega arith)
some_reached before count (byte ∷ bytes) fewer enough =
    let marks = ticked byte bytes in
    ⊎_elim
    (λ further. let again = some_reached (before + tick byte) count bytes further (omega arith) in omega arith)
    (λ here. let t = tick_high (128 + (before + tick byte) - count) (omega arith) in omega arith)
    (cases_lt (before + tick byte) count)

value_of_eight : (count a b c d e f g h : ℕ) → count ≤ 8
    → tick a + 256 * (tick a + tick b + 256 * (tick a + tick b + tick c + 256 * (tick a + tick b + tick c + tick d + 256 * (tick a + tick b + tick c + tick d + tick e + 256 * (tick a + tick b + tick c + tick d + tick e + tick f + 256 * (tick a + tick b + tick c + tick d + tick e + tick f + tick g + 256 * (tick a + tick b + tick c + tick d + tick e + tick f + tick g + tick h))))))) + 0x8080_8080_8080_8080 - count * 0x0101_0101_0101_0101 ≡ value (reached 0 count (a ∷ b ∷ c ∷ d ∷ e ∷ f ∷ g ∷ h ∷ []))
value_of_eight count a b c d e f g h few = omega arith

-- where a code ends in eight bytes
pub end_at : (word behind : List ℕ) (count ends : ℕ) → length word ≡ 8 → ends ≡ ends_by_byte 0 word → 0 < count → count ≤ ends / 2 ^ 56
    → end_of count (word ++ behind) ≡ trailing_zeros w64 (bit_and (ends + 0x8080_8080_8080_8080 - count * 0x0101_0101_0101_0101) 0x8080_8080_8080_8080) / 8 + 1
end_at word behind count ends long is some enough =
    let w = eight word long in
    let whole = are_ends word long in
    let within : count ≤ marks_in word = omega (arith, whole.all) in
    let few : count ≤ 8 = omega (arith, whole.few) in
    let number = ends + 0x8080_8080_8080_8080 - count * 0x0101_0101_0101_0101 in
    let value_is : number ≡ value (reached 0 count word) =
    ap (λ n. n + 0x8080_8080_8080_8080 - count * 0x0101_0101_0101_0101) (is ∙ ap (ends_by_byte 0) w.is ∙ ends_of_eight w.a w.b w.c w.d w.e w.f w.g w.h)
    ∙ value_of_eight count w.a w.b w.c w.d w.e w.f w.g w.h few
    ∙ ap (λ bytes. value (reached 0 count bytes)) (sym w.is) in
    let bytes_are : bytes_of 8 number ≡ reached 0 count word =
    ap (bytes_of 8) value_is ∙ ap (λ n. bytes_of n (value (reached 0 count word))) (sym long) ∙ bytes_reached 0 count word (omega arith) in
    let marks_are : bit_and number 0x8080_8080_8080_8080 ≡ marks_of 8 128 (reached 0 count word) = masked 8 number ∙ ap (marks_of 8 128) bytes_are in
    let ticks_are = marks_are_ticks (reached 0 count word) in
    let any = some_reached 0 count word some (omega arith) in
    let top = and_le_r number 0x8080_8080_8080_8080 in
    let same : count - 0 ≡ count = omega arith in
    sym (ap (λ n. end_of n (word ++ behind)) same)
    ∙ sym (first_reached 0 count word behind some (omega arith))
    ∙ first_end (reached 0 count word) behind (bit_and number 0x8080_8080_8080_8080) marks_are (omega arith) (omega arith)

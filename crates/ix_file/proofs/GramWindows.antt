-- A gram is three characters.
use Rattle.std.proofs.Common.{◌≡◌, ◌≢◌, ℕ, List, [], ◌∷◌, ◌++◌, length, IsUtf8, Option, Some, None, IfNone, sym, ap, ◌∙◌, arith}
use Rattle.std.proofs.lemmas.Str.{chars_past_char, IsUtf8-past_char, chars_from_encodes}
use Rattle.std.specs.Char.{encode_utf8}
use Rattle.std.specs.Str.{chars}
use Rattle.ix_index_text.specs.GramTables.{text_of}
use Rattle.ix_index_text.specs.declared.windows.Gram.{Gram}
use Rattle.ix_index_text.proofs.WindowSteps.{no_chars}

-- ---- three characters

-- the characters of a gram
pub gram_chars : (gram : List ℕ) (p : Gram) → IsUtf8 gram → text_of p ≡ gram → chars gram ≡ p.first ∷ p.second ∷ p.third ∷ []
gram_chars gram p text is = sym (chars_from_encodes (p.first ∷ p.second ∷ p.third ∷ []) gram text is)

-- another number of characters is no gram
no_three : (gram cs : List ℕ) → IsUtf8 gram → chars gram ≡ cs → length cs ≢ 3 → (p : Gram) → text_of p ≢ gram
no_three gram cs text are other p is = other (ap length (sym are ∙ gram_chars gram p text is))

pub after_none : (gram rest : List ℕ) → IsUtf8 gram → rest ≡ gram → length rest ≡ 0 → (p : Gram) → text_of p ≢ gram
after_none gram rest text is none = no_three gram [] text (no_chars gram (ap length (sym is) ∙ none)) (λ e. omega (arith, e))

pub after_one : (gram rest one : List ℕ) (a : ℕ) → IsUtf8 gram → rest ≡ gram → rest ≡ encode_utf8 a ++ one → length one ≡ 0 → (p : Gram) → text_of p ≢ gram
after_one gram rest one a text is first none =
    no_three gram (a ∷ []) text (chars_past_char gram one a text (sym is ∙ first) ∙ ap (λ cs. a ∷ cs) (no_chars one none)) (λ e. omega (arith, e))

-- two characters, and the rest
two_chars : (gram rest one two : List ℕ) (a b : ℕ) → IsUtf8 gram → rest ≡ gram → rest ≡ encode_utf8 a ++ one → one ≡ encode_utf8 b ++ two → (chars gram ≡ a ∷ b ∷ chars two) × IsUtf8 two
two_chars gram rest one two a b text is first second =
    let u = IsUtf8-past_char gram one a text (sym is ∙ first) in (
      chars_past_char gram one a text (sym is ∙ first) ∙ ap (λ cs. a ∷ cs) (chars_past_char one two b u second),
      IsUtf8-past_char one two b u second,
    )

pub after_two : (gram rest one two : List ℕ) (a b : ℕ) → IsUtf8 gram → rest ≡ gram → rest ≡ encode_utf8 a ++ one → one ≡ encode_utf8 b ++ two → length two ≡ 0 → (p : Gram) → text_of p ≢ gram
after_two gram rest one two a b text is first second none =
    no_three gram (a ∷ b ∷ []) text ((two_chars gram rest one two a b text is first second).0 ∙ ap (λ cs. a ∷ b ∷ cs) (no_chars two none)) (λ e. omega (arith, e))

three_chars : (gram rest one two three : List ℕ) (a b d : ℕ) → IsUtf8 gram → rest ≡ gram → rest ≡ encode_utf8 a ++ one → one ≡ encode_utf8 b ++ two → two ≡ encode_utf8 d ++ three → (chars gram ≡ a ∷ b ∷ d ∷ chars three) × IsUtf8 three
three_chars gram rest one two three a b d text is first second third =
    let (before, u) = two_chars gram rest one two a b text is first second in (
      before ∙ ap (λ cs. a ∷ b ∷ cs) (chars_past_char two three d u third),
      IsUtf8-past_char two three d u third,
    )

pub after_four : (gram rest one two three four : List ℕ) (a b d e : ℕ) → IsUtf8 gram → rest ≡ gram → rest ≡ encode_utf8 a ++ one → one ≡ encode_utf8 b ++ two → two ≡ encode_utf8 d ++ three → three ≡ encode_utf8 e ++ four → (p : Gram) → text_of p ≢ gram
after_four gram rest one two three four a b d e text is first second third fourth =
    let (before, u) = three_chars gram rest one two three a b d text is first second third in
    no_three gram (a ∷ b ∷ d ∷ e ∷ chars four) text (before ∙ ap (λ cs. a ∷ b ∷ d ∷ cs) (chars_past_char three four e u fourth)) (λ same. omega (arith, same))

-- what holds in any case
pub if_none : {X : Type 0} {P : Type 0} (found : Option X) → P → IfNone found P
if_none None p = p
if_none (Some x) p = tt

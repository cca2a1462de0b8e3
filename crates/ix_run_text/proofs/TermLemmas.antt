-- A term and the numbers behind it at the front of what is left.
use Rattle.std.proofs.Common.{◌≡◌, ℕ, ◌^◌, ◌<◌, ◌≤◌, List, [], ◌∷◌, ◌++◌, Option, Some, IfSome, Bool, true, false, Ordering, Less, Equal, Greater, Result, Ok, Err, OnOk, IfErr, MatchResult, length, refl, sym, ap, ◌∙◌, subst, arith, append_assoc, append-nil}
use Rattle.std.proofs.KnownBytes.{Consumes-trans}
use Rattle.std.proofs.lemmas.Cmp.{nat_list_cmp_total}
use Rattle.std.specs.Cmp.Lexicographic.{slice_cmp}
use Rattle.std.specs.Io.KnownBytes.{Consumes}
use Rattle.std.specs.Ordering.{is_le, nat_cmp, ordering_reverse}
use Rattle.ix_vbyte.specs.Code.{code_of}
use Rattle.ix_vbyte.specs.Texts.{counted}
use Rattle.ix_vbyte.proofs.Values.{length-code_of}
use Rattle.ix_run_text.specs.CodeFaults.{IsCodeFault}
use Rattle.ix_run_text.specs.RunTextErrors.{IsRefusal}
use Rattle.ix_run_text.specs.declared.run_text_error.RunTextError.{RunTextError}
use Rattle.ix_run_text.proofs.SpelledLemmas.{code_refused}

-- a code that stands first, of at least as many bytes as any has, is refused for want of a read alone
pub whole_code_refused : (a : Option (List ℕ)) (rest : List ℕ) (number limit : ℕ) (error : RunTextError) → number < 2 ^ 32 → 5 ≤ limit → a ≡ Some (code_of number ++ rest)
    → IfSome a (λ bytes. IsCodeFault limit bytes error) → IsRefusal error
whole_code_refused a rest number limit error fits le e h = code_refused a rest number limit error fits (omega (arith, length-code_of number fits)) e h

-- the end mark is the code of 0
pub end_mark : code_of 0 ≡ 128 ∷ []
unfolding code_of
end_mark = refl

pub end_mark_known : (a : Option (List ℕ)) → a ≡ Some (128 ∷ []) → a ≡ Some (code_of 0 ++ [])
end_mark_known a e = e ∙ ap (λ (bytes : List ℕ). Some bytes) (sym end_mark ∙ sym (append-nil (code_of 0)))

pub end_mark_taken : (a b c : Option (List ℕ)) (number : ℕ) → number ≡ 0 → Consumes a b (code_of number) → Consumes b c [] → Consumes a c (128 ∷ [])
end_mark_taken a b c number zero one two =
    subst (Consumes a c) (append-nil (code_of number) ∙ ap code_of zero ∙ end_mark) (Consumes-trans a b c (code_of number) [] one two)

-- [] is below each text that has a byte
pub none_below : (text : List ℕ) → 0 < length text → slice_cmp nat_cmp [] text ≡ Less
none_below [] some = absurd (omega arith)
none_below (x ∷ xs) some = refl

reverse_Less : (order : Ordering) → is_le order ≡ false → ordering_reverse order ≡ Less
reverse_Less Less e = absurd cc
reverse_Less Equal e = absurd cc
reverse_Less Greater e = refl

not_le : (order : Ordering) → ordering_reverse order ≡ Less → is_le order ≡ true → ⊥
not_le Less e le = cc
not_le Equal e le = cc
not_le Greater e le = cc

-- the test of a text against the one before it
pub above_from_test : (text before : List ℕ) (test : Bool) → test ≡ is_le (slice_cmp nat_cmp text before) → test ≡ false → slice_cmp nat_cmp before text ≡ Less
above_from_test text before test by fails = nat_list_cmp_total.antisymm before text ∙ reverse_Less (slice_cmp nat_cmp text before) (sym by ∙ fails)

pub not_above_from_test : (text before : List ℕ) (test : Bool) → test ≡ is_le (slice_cmp nat_cmp text before) → test ≡ true → slice_cmp nat_cmp before text ≡ Less → ⊥
not_above_from_test text before test by holds less = not_le (slice_cmp nat_cmp text before) (sym (nat_list_cmp_total.antisymm before text) ∙ less) (sym by ∙ holds)

-- the text behind its length, and the numbers behind it
pub counted_parts : (a : Option (List ℕ)) (text rest : List ℕ) → a ≡ Some (counted text ++ rest) → a ≡ Some (code_of (length text) ++ (text ++ rest))
counted_parts a text rest e = e ∙ ap (λ (bytes : List ℕ). Some bytes) (append_assoc (code_of (length text)) text rest)

pub term_taken : (a b c d : Option (List ℕ)) (size documents bytes : ℕ) (text : List ℕ) → length text ≡ size → Consumes a b (code_of size) → Consumes b c text
    → Consumes c d (code_of documents ++ code_of bytes) → Consumes a d (counted text ++ (code_of documents ++ code_of bytes))
term_taken a b c d size documents bytes text len one two three =
    let numbers = code_of documents ++ code_of bytes in
    let same : code_of size ++ (text ++ numbers) ≡ counted text ++ numbers =
    ap (λ (n : ℕ). code_of n ++ (text ++ numbers)) (sym len) ∙ sym (append_assoc (code_of (length text)) text numbers) in
    subst (Consumes a d) same (Consumes-trans a b d (code_of size) (text ++ numbers) one (Consumes-trans b c d text numbers two three))

-- what was done, where no error stands for a fault
pub done_or_refused : {T : Type 0} {P Q : Type 0} (result : Result T RunTextError) → OnOk result P → IfErr result IsRefusal → (P → Q) → MatchResult result (λ _. Q) IsRefusal
done_or_refused (Ok x) done refused onward = onward done
done_or_refused (Err error) done refused onward = refused

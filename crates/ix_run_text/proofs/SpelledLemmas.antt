-- What is spelled at the front of what is left is read, unless a read or a growth is refused.
use Rattle.std.proofs.Common.{◌≡◌, ℕ, ◌^◌, ◌<◌, ◌≤◌, List, ◌++◌, Option, Some, None, IfSome, length, take, drop, refl, sym, ap, ◌∙◌, subst, arith, append_assoc, ◌⊎◌, inl, inr}
use Rattle.std.proofs.lemmas.List.{take_at, drop_at, take-take, length-append, length-take}
use Rattle.std.specs.Io.KnownBytes.{Consumes}
use Rattle.ix_vbyte.specs.Code.{code_of, IsCode}
use Rattle.ix_vbyte.specs.Reading.{StartsWithCode}
use Rattle.ix_vbyte.specs.declared.errors.VbError.TheVariants.{Cut, LeadingZero, TooBig}
use Rattle.ix_vbyte.proofs.Fronts.{code_or_fault, starts_from}
use Rattle.ix_vbyte.proofs.Values.{code_of-apart, length-code_of}
use Rattle.ix_text.specs.Terms.{IsTerm}
use Rattle.ix_vbyte.specs.Texts.{counted}
use Rattle.ix_run_text.specs.CodeFaults.{IsCodeFault, IsTextFault}
use Rattle.ix_run_text.specs.RunTextErrors.{IsRefusal}
use Rattle.ix_run_text.specs.declared.run_text_error.RunTextError.{RunTextError}
use Rattle.ix_run_text.specs.declared.run_text_error.RunTextError.TheVariants.{Number, ListLength, Read, Memory}

-- the code stands first in as many bytes as it may have
code_within : (bytes : List ℕ) (number count limit : ℕ) → StartsWithCode bytes number count → count ≤ limit → StartsWithCode (take limit bytes) number count
code_within bytes number count limit s le = record {
  within = omega (arith, length-take limit bytes, s.within);
  code = subst (IsCode number) (sym (take-take count limit bytes le)) s.code;
}

code_refused_of : (bytes rest : List ℕ) (number limit : ℕ) (error : RunTextError) → number < 2 ^ 32 → length (code_of number) ≤ limit → bytes ≡ code_of number ++ rest
    → IsCodeFault limit bytes error → IsRefusal error
code_refused_of bytes rest number limit (Number fault) lt le e h = absurd (code_or_fault bytes number (length (code_of number)) fault (starts_from bytes number rest lt e) h)
code_refused_of bytes rest number limit ListLength lt le e h =
    absurd (code_or_fault (take limit bytes) number (length (code_of number)) Cut (code_within bytes number (length (code_of number)) limit (starts_from bytes number rest lt e) le) h)
code_refused_of bytes rest number limit Read lt le e h = tt
code_refused_of bytes rest number limit _ lt le e h = absurd h

-- a code that stands first is refused for want of a read alone
pub code_refused : (a : Option (List ℕ)) (rest : List ℕ) (number limit : ℕ) (error : RunTextError) → number < 2 ^ 32 → length (code_of number) ≤ limit → a ≡ Some (code_of number ++ rest)
    → IfSome a (λ bytes. IsCodeFault limit bytes error) → IsRefusal error
code_refused None rest number limit error lt le e h = absurd cc
code_refused (Some x) rest number limit error lt le e h = code_refused_of x rest number limit error lt le (let same : x ≡ code_of number ++ rest = cc in same) h

-- and what was taken is that code
pub code_accepted : (a b : Option (List ℕ)) (rest : List ℕ) (taken number : ℕ) → Consumes a b (code_of taken) → a ≡ Some (code_of number ++ rest) → (taken ≡ number) × (b ≡ Some rest)
code_accepted None b rest taken number h e = absurd cc
code_accepted (Some x) None rest taken number h e = absurd h
code_accepted (Some x) (Some y) rest taken number h e =
    let same : x ≡ code_of number ++ rest = cc in
    let apart = code_of-apart taken number y rest (sym h ∙ same) in
    (apart.0, ap (λ (bytes : List ℕ). Some bytes) apart.1)

text_refused_of : (bytes text rest : List ℕ) (count : ℕ) (error : RunTextError) → count ≡ length text → bytes ≡ text ++ rest → IsTextFault count bytes error → IsRefusal error
text_refused_of bytes text rest count (Number Cut) len e h = absurd (omega (arith, ap length e, length-append text rest, h))
text_refused_of bytes text rest count (Number LeadingZero) len e h = absurd h
text_refused_of bytes text rest count (Number TooBig) len e h = absurd h
text_refused_of bytes text rest count Read len e h = tt
text_refused_of bytes text rest count Memory len e h = tt
text_refused_of bytes text rest count _ len e h = absurd h

-- a text that stands first is refused for want of a read or of memory alone
pub text_refused : (a : Option (List ℕ)) (text rest : List ℕ) (count : ℕ) (error : RunTextError) → count ≡ length text → a ≡ Some (text ++ rest)
    → IfSome a (λ bytes. IsTextFault count bytes error) → IsRefusal error
text_refused None text rest count error len e h = absurd cc
text_refused (Some x) text rest count error len e h = text_refused_of x text rest count error len (let same : x ≡ text ++ rest = cc in same) h

-- and what was taken is that text
pub text_accepted : (a b : Option (List ℕ)) (taken text rest : List ℕ) → Consumes a b taken → length taken ≡ length text → a ≡ Some (text ++ rest) → (taken ≡ text) × (b ≡ Some rest)
text_accepted None b taken text rest h len e = absurd cc
text_accepted (Some x) None taken text rest h len e = absurd h
text_accepted (Some x) (Some y) taken text rest h len e =
    let same : taken ++ y ≡ text ++ rest = sym h ∙ (let is : x ≡ text ++ rest = cc in is) in (
      sym (take_at taken y (length text) len) ∙ ap (take (length text)) same ∙ take_at text rest (length text) refl,
      ap (λ (bytes : List ℕ). Some bytes) (sym (drop_at taken y (length text) len) ∙ ap (drop (length text)) same ∙ drop_at text rest (length text) refl),
    )

-- ---- a number, and what it counts

module _ (a : Option (List ℕ)) (number : ℕ) (body rest : List ℕ) (fits : number < 2 ^ 32) (e : a ≡ Some ((code_of number ++ body) ++ rest)) where
  number_parts : a ≡ Some (code_of number ++ (body ++ rest))
  number_parts = e ∙ ap (λ (bytes : List ℕ). Some bytes) (append_assoc (code_of number) body rest)

  pub number_refused : (limit : ℕ) (error : RunTextError) → 5 ≤ limit → IfSome a (λ bytes. IsCodeFault limit bytes error) → IsRefusal error
  number_refused limit error le h = code_refused a (body ++ rest) number limit error fits (omega (arith, length-code_of number fits)) number_parts h

  pub number_accepted : (b : Option (List ℕ)) (taken : ℕ) → Consumes a b (code_of taken) → (taken ≡ number) × (b ≡ Some (body ++ rest))
  number_accepted b taken h = code_accepted a b (body ++ rest) taken number h number_parts

-- ---- a text behind the code of its length

module _ (a : Option (List ℕ)) (text rest : List ℕ) (term : IsTerm text) (e : a ≡ Some (counted text ++ rest)) where
  few : length text < 2 ^ 32
  few = omega (arith, term.short)

  pub length_refused : (limit : ℕ) (error : RunTextError) → 5 ≤ limit → IfSome a (λ bytes. IsCodeFault limit bytes error) → IsRefusal error
  length_refused limit error le h = number_refused a (length text) text rest few e limit error le h

  length_accepted : (b : Option (List ℕ)) (taken : ℕ) → Consumes a b (code_of taken) → (taken ≡ length text) × (b ≡ Some (text ++ rest))
  length_accepted b taken h = number_accepted a (length text) text rest few e b taken h

  pub length_in_range : (b : Option (List ℕ)) (taken : ℕ) → Consumes a b (code_of taken) → (taken ≡ 0) ⊎ (255 < taken) → ⊥
  length_in_range b taken h (inl none) = omega (arith, (length_accepted b taken h).0, term.some_byte)
  length_in_range b taken h (inr many) = omega (arith, (length_accepted b taken h).0, term.short)

  pub bytes_refused : (b : Option (List ℕ)) (taken : ℕ) (error : RunTextError) → Consumes a b (code_of taken) → IfSome b (λ bytes. IsTextFault taken bytes error) → IsRefusal error
  bytes_refused b taken error h fault =
      let known = length_accepted b taken h in
      text_refused b text rest taken error known.0 known.1 fault

  pub bytes_accepted : (b c : Option (List ℕ)) (taken : ℕ) (bytes : List ℕ) → Consumes a b (code_of taken) → Consumes b c bytes → length bytes ≡ taken → (bytes ≡ text) × (c ≡ Some rest)
  bytes_accepted b c taken bytes h more len =
      let known = length_accepted b taken h in
      text_accepted b c bytes text rest more (len ∙ known.0) known.1

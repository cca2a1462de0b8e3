-- A number at the front of bytes, or the first bytes of its code.
use Rattle.std.proofs.Common.{◌≡◌, ℕ, ◌^◌, ◌<◌, ◌≤◌, List, ◌++◌, length, take, drop, Result, Err, refl, sym, ap, ◌∙◌, append_assoc, inl, inr}
use Rattle.std.proofs.Math.Seq.{take-append_seam}
use Rattle.std.specs.Prelude.{IsErrOf}
use Rattle.std.proofs.lemmas.Bool.{cases_lt}
use Rattle.std.proofs.lemmas.List.{take-append-drop, take-append-le}
use Rattle.ix_vbyte.specs.Code.{code_of}
use Rattle.ix_vbyte.specs.Decoded.{HasFault}
use Rattle.ix_vbyte.specs.Reading.{IsCut, IsTooBig, StartsWithZero}
use Rattle.ix_vbyte.specs.declared.errors.VbError.{VbError}
use Rattle.ix_vbyte.specs.declared.errors.VbError.TheVariants.{Cut, LeadingZero, TooBig}
use Rattle.ix_vbyte.proofs.Fronts.{code_or_fault, starts_from}
use Rattle.ix_vbyte.proofs.Values.{code_of-apart}
use Rattle.ix_postings.specs.CheckedLists.{IsCutShort}
use Rattle.ix_postings.specs.declared.list_fault.ListFault.TheVariants.{Number}
use Rattle.ix_postings.proofs.CodeFaults.{big_stays, zero_stays}

-- a front of the bytes that is long enough has the code whole
pub front_within : (held xs list tail : List ℕ) → held ++ xs ≡ list ++ tail → length list ≤ length held → held ≡ list ++ drop (length list) held
front_within held xs list tail e within =
    sym (take-append-drop (length list) held)
    ∙ ap (λ (front : List ℕ). front ++ drop (length list) held)
    (sym (take-append-le (length list) held xs within) ∙ ap (take (length list)) e ∙ take-append_seam list tail)

-- the number that comes first is the one that was found
pub number_is : (bytes missing : List ℕ) (found size number : ℕ) (rest : List ℕ) → bytes ≡ code_of found ++ drop size bytes → bytes ++ missing ≡ code_of number ++ rest → (found ≡ number) × (drop size bytes ++ missing ≡ rest)
number_is bytes missing found size number rest spelled e =
    code_of-apart found number (drop size bytes ++ missing) rest
    (sym (append_assoc (code_of found) (drop size bytes) missing) ∙ ap (λ (bs : List ℕ). bs ++ missing) (sym spelled) ∙ e)

-- where a code comes first, or its first bytes, the bytes have no other fault than their end
pub fault_cut : (bytes missing : List ℕ) (number : ℕ) (rest : List ℕ) (fault : VbError) → number < 2 ^ 32 → bytes ++ missing ≡ code_of number ++ rest → HasFault bytes fault → IsCutShort bytes (code_of number) (Number fault)
fault_cut bytes missing number rest Cut lt e cut = (
  refl,
  elim (cases_lt (length bytes) (length (code_of number))) [
    | inl less ↦ less
    | inr le ↦ absurd (code_or_fault bytes number (length (code_of number)) Cut (starts_from bytes number (drop (length (code_of number)) bytes) lt (front_within bytes missing (code_of number) rest e le)) cut)
  ],
)
fault_cut bytes missing number rest LeadingZero lt e zero =
    absurd (code_or_fault (bytes ++ missing) number (length (code_of number)) LeadingZero (starts_from (bytes ++ missing) number rest lt e) (zero_stays bytes missing zero))
fault_cut bytes missing number rest TooBig lt e big =
    absurd (code_or_fault (bytes ++ missing) number (length (code_of number)) TooBig (starts_from (bytes ++ missing) number rest lt e) (big_stays bytes missing big))

abbrev failed : VbError → Result (ℕ × ℕ) VbError
failed fault = Err fault

-- the fault that was found
pub fault_found : (bytes : List ℕ) (fault : VbError) → (IsErrOf (failed fault) LeadingZero → StartsWithZero bytes) → (IsErrOf (failed fault) TooBig → IsTooBig bytes) → (IsErrOf (failed fault) Cut → IsCut bytes) → HasFault bytes fault
fault_found bytes Cut zero big cut = cut refl
fault_found bytes LeadingZero zero big cut = zero refl
fault_found bytes TooBig zero big cut = big refl

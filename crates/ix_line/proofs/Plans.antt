-- The plan that the numbers of a line's options make.
use Rattle.std.proofs.Common.{◌≡◌, ℕ, ◌≤◌, subst, sym, Option, Some, None}
use Rattle.std.specs.Prelude.{IfSome, option_map}
use Rattle.std.specs.Option.{option_map_or}
use Rattle.clap.specs.Walk.{Text}
use Rattle.ix_build.specs.Blocks.{cut_number}
use Rattle.ix_build.specs.declared.plan.Cut.{Cut}
use Rattle.ix_build.specs.declared.plan.Cut.TheVariants.{Bytes, Docs}
use Rattle.ix_line.specs.Lines.{IsNumberIn, IsNumberText, cut_of, number_of}

-- a number in a range is a number
pub is_number : (low high : ℕ) (o : Option Text) → IfSome o (IsNumberIn low high) → IfSome o IsNumberText
is_number low high None known = tt
is_number low high (Some text) known = known.number

-- a number that is given in a range, or another one of the range, is at most the highest
pub at_most_or : (low high otherwise n : ℕ) (o : Option Text) → otherwise ≤ high → IfSome o (IsNumberIn low high) → n ≡ option_map_or number_of o otherwise → n ≤ high
at_most_or low high otherwise n None below known is = subst (λ (k : ℕ). k ≤ high) (sym is) below
at_most_or low high otherwise n (Some text) below known is = subst (λ (k : ℕ). k ≤ high) (sym is) known.below

same_cut : (a b : Cut) → Some a ≡ Some b → a ≡ b
same_cut a b is = cc

-- the number of a cut is one of the words, or 1024
pub cut_few : (high : ℕ) (block bytes : Option Text) (cut : Cut) → 1024 ≤ high → IfSome block (IsNumberIn 1 high) → IfSome bytes (IsNumberIn 1 high)
    → cut_of (option_map number_of block) (option_map number_of bytes) ≡ Some cut → cut_number cut ≤ high
cut_few high None None cut wide documents text is = subst (λ (c : Cut). cut_number c ≤ high) (same_cut (Docs 1024) cut is) wide
cut_few high (Some block) None cut wide documents text is = subst (λ (c : Cut). cut_number c ≤ high) (same_cut (Docs (number_of block)) cut is) documents.below
cut_few high None (Some bytes) cut wide documents text is = subst (λ (c : Cut). cut_number c ≤ high) (same_cut (Bytes (number_of bytes)) cut is) text.below
cut_few high (Some block) (Some bytes) cut wide documents text is =
    let wrong : None ≡ Some cut = is in
    cc

-- Tokens that were seen, one after another.
use Rattle.std.proofs.Common.{◌≡◌, ℕ, List, [], ◌++◌, sym, subst, append_assoc, append-nil}
use Rattle.ix_postings.specs.SeenTokens.{SeesMore}

pub sees_none : (admits old : List ℕ → Type 0) → SeesMore admits old old []
sees_none admits old numbers held may = (subst admits (sym (append-nil numbers)) may, subst old (sym (append-nil numbers)) held)

pub sees_both : (admits old now new : List ℕ → Type 0) (one other : List ℕ) → SeesMore admits old now one → SeesMore admits now new other → SeesMore admits old new (one ++ other)
sees_both admits old now new one other first second numbers held may =
    let before = first numbers held may in
    let after = second (numbers ++ one) before.1 before.0 in
    (subst admits (append_assoc numbers one other) after.0, subst new (append_assoc numbers one other) after.1)

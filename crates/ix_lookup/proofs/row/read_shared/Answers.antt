use Rattle.std.proofs.Common.{◌≡◌, ℕ, ◌%◌, ◌++◌, List, nat_eq, false, ap, ◌∙◌, drop, Bor}
use Rattle.std.proofs.lemmas.Bool.{ne_eqb}
use Rattle.std.specs.List.{common_prefix_len}
use Rattle.ix_vbyte.specs.Texts.{counted}
use Rattle.ix_index_text.specs.Sections.{Version, FrontCoded, front_coded}
use Rattle.ix_index_text.specs.Listings.{dictionary_term_bytes}
use Rattle.ix_lookup.specs.Versions.{version_in}
use Rattle.ix_lookup.proofs.RowLemmas.{IsSomeAnd_then, front_split, shared_small, shares_read, inside_group}
use Rattle.ix_lookup.proofs.row.read_shared.Goals as goal

pub returns-else-is_multiple_of : goal.returns-else-is_multiple_of
returns-else-is_multiple_of c = λ before term rest short e.
    let multiple = c.is_multiple_of.ensures in
    let inside : nat_eq (c.args.place % 4) 0 ≡ false = ne_eqb (c.args.place % 4) 0 (λ zero. let is = multiple.1 zero in cc) in
    let version : version_in c.args.version ≡ FrontCoded = ap version_in c.in-FrontCoded.is in
    let coded : c.args.left.now ≡ front_coded before term ++ rest =
    e ∙ ap (λ (v : Version). dictionary_term_bytes v c.args.place before term ++ rest) version ∙ ap (λ bytes. bytes ++ rest) (inside_group c.args.place before term inside) in
    let found = c.read_number.ensures (common_prefix_len nat_eq before term) (counted (drop (common_prefix_len nat_eq before term) term) ++ rest) (shared_small before term short) (front_split before term rest c.args.left.now coded) in
    IsSomeAnd_then c.read_number.result found
    (λ (read : ℕ × Bor (List ℕ)) (is : (read.0 ≡ common_prefix_len nat_eq before term) × (read.1.now ≡ counted (drop (common_prefix_len nat_eq before term) term) ++ rest)). shares_read before term rest read.1.now read.0 is.0 is.1)

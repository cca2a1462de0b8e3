-- The blocks of a cut are of one number.
use Rattle.std.proofs.Common.{◌≡◌, ℕ, ◌+◌, ◌<◌, ◌≤◌, ◌⊎◌, List, [], ◌∷◌, ◌++◌, length, take, drop, All, refl, sym, ap, subst, ◌∙◌, inl, inr, ⊎_elim, arith, length-append}
use Rattle.std.proofs.lemmas.Bool.{cases_lt}
use Rattle.std.proofs.lemmas.List.{append-nil, append_assoc, drop_at, take-append-le, take_at}
use Rattle.std.proofs.lemmas.List.Concat.{flat_map-append}
use Rattle.std.proofs.lemmas.List.Elements.{All-head, All-tail}
use Rattle.ix_text.specs.Collections.{NamedText}
use Rattle.ix_build.specs.Blocks.{AreBlocks, AreBounds, IsBlockPlace, IsFull, IsFullNoSooner}
use Rattle.ix_build.specs.declared.plan.Cut.{Cut}
use Rattle.ix_build.proofs.BlockLemmas.{all_in}
use Rattle.ix_build.proofs.WholeBuild.{bounds_counted}

nil_or_some : {X : Type 0} (xs : List X) → (xs ≡ []) ⊎ (0 < length xs)
nil_or_some [] = inl refl
nil_or_some (x ∷ xs) = inr (omega arith)

module _ (cut : Cut) where
  -- a block that is full no sooner is no longer than a full one with which its texts begin
  no_longer : (block behind full rest : List NamedText) → block ++ behind ≡ full ++ rest → IsFullNoSooner cut block → IsFull cut full → length block ≤ length full
  no_longer block behind full rest same sooner is_full = ⊎_elim
      (λ short.
      let front : take (length full) block ≡ full = sym (take-append-le (length full) block behind (omega (arith, short))) ∙ ap (take (length full)) same ∙ take_at full rest (length full) refl in
      absurd (sooner (length full) short (subst (IsFull cut) (sym front) is_full)))
      (λ long. long)
      (cases_lt (length full) (length block))

  -- one text is no block, if another begins with a full one
  no_block : (x one other : List NamedText) (ones : List (List NamedText)) → all_in (x ∷ ones) ++ one ≡ other → IsFull cut x → IsFullNoSooner cut other → 0 < length one → ⊥
  no_block x one other ones same full sooner some =
      let whole : other ++ [] ≡ x ++ (all_in ones ++ one) = append-nil other ∙ sym same ∙ append_assoc x (all_in ones) one in
      let short = no_longer other [] x (all_in ones ++ one) whole sooner full in
      let more = length-append x (all_in ones ++ one) in
      let behind = length-append (all_in ones) one in
      let counted = ap length whole in
      let none = length-append other [] in
      omega (arith, short, more, behind, counted, none, some)

  same_count : (ones others : List (List NamedText)) (one other : List NamedText) → all_in ones ++ one ≡ all_in others ++ other
      → All (IsFull cut) ones → All (IsFull cut) others → All (IsFullNoSooner cut) (ones ++ one ∷ []) → All (IsFullNoSooner cut) (others ++ other ∷ [])
      → (0 < length ones → 0 < length one) → (0 < length others → 0 < length other) → length ones ≡ length others
  same_count [] [] one other same full also sooner later some more = refl
  same_count (x ∷ ones) [] one other same full also sooner later some more =
      absurd (no_block x one other ones same (All-head (IsFull cut) x ones full) (All-head (IsFullNoSooner cut) other [] later) (some (omega arith)))
  same_count [] (y ∷ others) one other same full also sooner later some more =
      absurd (no_block y other one others (sym same) (All-head (IsFull cut) y others also) (All-head (IsFullNoSooner cut) one [] sooner) (more (omega arith)))
  same_count (x ∷ ones) (y ∷ others) one other same full also sooner later some more =
      let behind_x = all_in ones ++ one in
      let behind_y = all_in others ++ other in
      let both : x ++ behind_x ≡ y ++ behind_y = sym (append_assoc x (all_in ones) one) ∙ same ∙ append_assoc y (all_in others) other in
      let one_way = no_longer x behind_x y behind_y both (All-head (IsFullNoSooner cut) x (ones ++ one ∷ []) sooner) (All-head (IsFull cut) y others also) in
      let other_way = no_longer y behind_y x behind_x (sym both) (All-head (IsFullNoSooner cut) y (others ++ other ∷ []) later) (All-head (IsFull cut) x ones full) in
      let long : length x ≡ length y = omega (arith, one_way, other_way) in
      let rest : behind_x ≡ behind_y = sym (drop_at x behind_x (length x) refl) ∙ ap (drop (length x)) both ∙ drop_at y behind_y (length x) (sym long) in
      let counted = same_count ones others one other rest (All-tail (IsFull cut) x ones full) (All-tail (IsFull cut) y others also)
      (All-tail (IsFullNoSooner cut) x (ones ++ one ∷ []) sooner) (All-tail (IsFullNoSooner cut) y (others ++ other ∷ []) later)
      (λ is. some (omega arith)) (λ is. more (omega arith)) in
      omega (arith, counted)

module _ (cut : Cut) (texts : List NamedText) where
  parts : (blocks : List (List NamedText)) (are : AreBlocks cut texts blocks) → all_in are.before ++ are.last ≡ texts
  parts blocks are =
      let pushed : all_in (are.before ++ are.last ∷ []) ≡ all_in are.before ++ are.last = flat_map-append (λ (b : List NamedText). b) are.before (are.last ∷ []) ∙ ap (λ (l : List NamedText). all_in are.before ++ l) (append-nil are.last) in
      sym pushed ∙ ap (λ (l : List (List NamedText)). all_in l) (sym are.in_order) ∙ are.whole

  last_some : (blocks : List (List NamedText)) (are : AreBlocks cut texts blocks) → 0 < length are.before → 0 < length are.last
  last_some blocks are some = ⊎_elim (λ none. absurd (let is = ap length (are.one none) in omega (arith, is, some))) are.not_empty (nil_or_some texts)

  -- texts have one number of blocks
  pub same_number : (ones others : List (List NamedText)) → AreBlocks cut texts ones → AreBlocks cut texts others → length ones ≡ length others
  same_number ones others are also =
      let counted = same_count cut are.before also.before are.last also.last (parts ones are ∙ sym (parts others also)) are.full also.full
      (subst (All (IsFullNoSooner cut)) are.in_order are.no_sooner) (subst (All (IsFullNoSooner cut)) also.in_order also.no_sooner) (last_some ones are) (last_some others also) in
      let one = ap length are.in_order in
      let other = ap length also.in_order in
      let one_more = length-append are.before (are.last ∷ []) in
      let other_more = length-append also.before (also.last ∷ []) in
      omega (arith, counted, one, other, one_more, other_more)

  module _ (bounds : List ℕ) (are : AreBounds cut texts bounds) (count : ℕ) (size : count + 1 ≡ length bounds) where
    pub blocks_counted : count ≡ length are.blocks
    blocks_counted =
        let blocks = bounds_counted 0 are.blocks in
        let same = ap length are.bounds_are in omega (arith, blocks, same, size)

    pub block_place : (place : ℕ) → place < count → IsBlockPlace cut texts place
    block_place place within = let many = blocks_counted in record { blocks = are.blocks; of_cut = are.of_cut; within = omega (arith, within, many) }

    pub place_within : (place : ℕ) → IsBlockPlace cut texts place → place < count
    place_within place is =
        let many = blocks_counted in
        let same = same_number is.blocks are.blocks is.of_cut are.of_cut in
        let within = is.within in
        omega (arith, many, same, within)

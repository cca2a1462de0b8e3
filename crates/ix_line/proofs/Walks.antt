-- A walk over the words that finds no fault keeps each fact of the rows that a use of an argument keeps.
use Rattle.std.proofs.Common.{◌≡◌, ◌&&◌, ℕ, Bool, cond, true, false, zero, suc, List, [], ◌∷◌, length, drop, Option, Some, None, is_some}
use Rattle.std.specs.Prelude.{IfSome, encode_utf8, find, fold, slice_get}
use Rattle.std.specs.Option.{option_map_or}
use Rattle.std.specs.Str.{bytes_eq, chars}
use Rattle.clap.specs.Lexer.{long_of, short_of}
use Rattle.clap.specs.Kinds.{Kinds, or_else}
use Rattle.clap.specs.Simple.{Shape}
use Rattle.clap.specs.Walk.{Held, Names, Outcome, Row, Rule, Step, Text, Waiting, Walk, after_flag, after_step, arg_by_id, arg_by_index, arg_by_long, arg_by_short, attached_value, bundle, bundle_met, bundle_step, done, flag_met, idle, is_pending, long_met, long_or_other, next, option, option_met, option_word, plain, plain_word, positional, reacted, refused, settled, settled_rows, short_met, short_or_plain, subcommand, subcommand_met, subcommand_or_other, takes_several, takes_values, to_positional, trailing, used, used_by_id, value, waits, walked, walked_from, word_met}
use Rattle.clap.specs.Faults.{bundle_fault, bundle_step_fault, flag_word_fault, flags_fault, long_fault, option_fault, other_fault, positional_fault, react_fault, settle_fault, short_fault, step_fault, stray_fault, turn_fault, use_fault, walk_fault, word_fault}
use Rattle.clap.specs.declared.error.kind.ErrorKind.TheVariants as kind
use Rattle.ix_line.specs.Entered.{Each}
use Rattle.ix_line.proofs.EachLemmas.{found, neither}

-- a use of the argument that is no fault keeps F of the rows
abbrev pub KeepsRows : (List Row → Type 0) → Bool → Rule → Type 0
KeepsRows F again a = (values : List Text) (rows : List Row) → use_fault again a values rows ≡ [] → F rows → F (used a values rows)

module _ (c : List Rule) (again : Bool) (F : List Row → Type 0) (uses : Each (KeepsRows F again) c) where
  abbrev Uses : Rule → Bool → Type 0
  Uses a b = KeepsRows F again a × (b ≡ true)

  settle : (p : Option (Text × List Text)) (rows : List Row)
      → option_map_or (λ p. option_map_or (λ a. use_fault again a p.1 rows) (arg_by_id c p.0) []) p [] ≡ [] → F rows → F (settled_rows c p rows)
  settle None rows e f = f
  settle (Some p) rows e f = go (arg_by_id c p.0) (found (KeepsRows F again) _ c uses) e
    where
      go : (o : Option Rule) → IfSome o (λ a. Uses a (bytes_eq a.id p.0)) → option_map_or (λ a. use_fault again a p.1 rows) o [] ≡ [] → F (used_by_id o p.1 rows)
      go None known fault = f
      go (Some a) known fault = known.0 p.1 rows fault f

  pub settled_keeps : (h : Held) → settle_fault c again h ≡ [] → F h.rows → F (settled c h).rows
  settled_keeps h e f = settle h.pending h.rows e f

  reacted_keeps : (a : Rule) (values : List Text) (h : Held) → KeepsRows F again a → react_fault c again a values h ≡ [] → F h.rows → F (reacted c a values h).rows
  reacted_keeps a values h keeps e f =
      let parts = neither _ _ e in
      keeps values (settled c h).rows parts.1 (settled_keeps h parts.0 f)

  option_keeps : (a : Rule) (v : Option Text) (h : Held) → KeepsRows F again a → option_fault c again a v h ≡ [] → F h.rows → F (option_met c a v h).0.rows
  option_keeps a None h keeps e f = settled_keeps h e f
  option_keeps a (Some v) h keeps e f = reacted_keeps a (v ∷ []) h keeps e f

  flag_keeps : (a : Rule) (v : Option Text) (h : Held) → KeepsRows F again a → cond (is_some v) (kind.TooManyValues ∷ []) (react_fault c again a [] h) ≡ [] → F h.rows
      → F (flag_met c a v h).0.rows
  flag_keeps a None h keeps e f = reacted_keeps a [] h keeps e f
  flag_keeps a (Some v) h keeps e f = f

  long_keeps : (o : Option Rule) (v : Option Text) (h : Held) → IfSome o (KeepsRows F again) → long_fault c again o v h ≡ [] → F h.rows → F (long_met c o v h).0.rows
  long_keeps None v h known e f = f
  long_keeps (Some a) v h known e f = go (takes_values a) e
    where
      go : (b : Bool) → cond b (option_fault c again a v h) (cond (is_some v) (kind.TooManyValues ∷ []) (react_fault c again a [] h)) ≡ []
          → F (cond b (option_met c a v h) (flag_met c a v h)).0.rows
      go true fault = option_keeps a v h known fault f
      go false fault = flag_keeps a v h known fault f

  short_keeps : (o : Option Rule) (rest : Text) (h : Held) (fault_after : Held → Kinds) (after : Held → Held × Outcome) → IfSome o (KeepsRows F again)
      → ((g : Held) → fault_after g ≡ [] → F g.rows → F (after g).0.rows) → short_fault c again o rest h fault_after ≡ [] → F h.rows → F (short_met c o rest h after).0.rows
  short_keeps None rest h fault_after after known rec e f = f
  short_keeps (Some a) rest h fault_after after known rec e f = go (takes_values a) e
    where
      go : (b : Bool) → cond b (option_fault c again a (attached_value rest) h) (or_else (react_fault c again a [] h) (fault_after (reacted c a [] h))) ≡ []
          → F (cond b (option_met c a (attached_value rest) h) (after (reacted c a [] h))).0.rows
      go true fault = option_keeps a (attached_value rest) h known fault f
      go false fault =
          let parts = neither _ _ fault in
          rec (reacted c a [] h) parts.1 (reacted_keeps a [] h known parts.0 f)

  -- an argument that is looked up is one of the command's
  known : (p : Rule → Bool) → IfSome (find p c) (KeepsRows F again)
  known p = go (find p c) (found (KeepsRows F again) p c uses)
    where
      go : (o : Option Rule) → IfSome o (λ a. KeepsRows F again a × (p a ≡ true)) → IfSome o (KeepsRows F again)
      go None h = tt
      go (Some a) h = h.0

  -- ---- a bundle of flags

  bundle_step_keeps : (o : Option ℕ) (flags : Text) (skip : ℕ) (so_far : Outcome) (h : Held) (fault_after : Text → ℕ → Held → Kinds) (after : Text → ℕ → Outcome → Held → Held × Outcome)
      → ((rest : Text) (left : ℕ) (seen : Outcome) (g : Held) → fault_after rest left g ≡ [] → F g.rows → F (after rest left seen g).0.rows)
      → bundle_step_fault c again o flags skip h fault_after ≡ [] → F h.rows → F (bundle_step c o flags skip so_far h after).0.rows
  bundle_step_keeps None flags skip so_far h fault_after after rec e f = f
  bundle_step_keeps (Some x) flags zero so_far h fault_after after rec e f =
      let rest = drop (length (encode_utf8 x)) flags in
      short_keeps (arg_by_short c x) rest h (fault_after rest 0) (after rest 0 done) (known _) (rec rest 0 done) e f
  bundle_step_keeps (Some x) flags (suc skip) so_far h fault_after after rec e f = rec (drop (length (encode_utf8 x)) flags) skip so_far h e f

  flags_keep : (k : ℕ) (flags : Text) (skip : ℕ) (so_far : Outcome) (h : Held) → flags_fault c again k flags skip h ≡ [] → F h.rows → F (bundle_met c k flags skip so_far h).0.rows
  unfolding bundle_met flags_fault
  flags_keep zero flags skip so_far h e f = f
  flags_keep (suc k) flags skip so_far h e f =
      bundle_step_keeps (slice_get (chars flags) 0) flags skip so_far h (flags_fault c again k) (bundle_met c k) (flags_keep k) e f

  bundle_keeps : (flags : Text) (h : Held) → bundle_fault c again flags h ≡ [] → F h.rows → F (bundle c flags h).0.rows
  bundle_keeps flags h e f = flags_keep (length flags) flags h.skip plain (record h { skip = 0 }) e f

  -- ---- a word

  option_word_keeps : (o : Option Rule) (id word : Text) (h : Held) → F h.rows → F (option_word o id word h).0.rows
  option_word_keeps None id word h f = f
  option_word_keeps (Some a) id word h f = f

  plain_word_keeps : (waiting : Waiting) (word : Text) (h : Held) → F h.rows → F (plain_word c waiting word h).0.rows
  plain_word_keeps (option id) word h f = option_word_keeps (arg_by_id c id) id word h f
  plain_word_keeps idle word h f = f
  plain_word_keeps positional word h f = f

  after_flag_keeps : (waiting : Waiting) (word : Text) (h : Held) (seen : Outcome) → F h.rows → F (after_flag c waiting word h seen).0.rows
  after_flag_keeps waiting word h done f = f
  after_flag_keeps waiting word h (waits id) f = f
  after_flag_keeps waiting word h plain f = plain_word_keeps waiting word h f
  after_flag_keeps waiting word h refused f = plain_word_keeps waiting word h f

  short_word_keeps : (waiting : Waiting) (word : Text) (o : Option Text) (h : Held) → option_map_or (λ flags. bundle_fault c again flags h) o [] ≡ [] → F h.rows
      → F (short_or_plain c waiting word o h).0.rows
  short_word_keeps waiting word None h e f = plain_word_keeps waiting word h f
  short_word_keeps waiting word (Some flags) h e f = after_flag_keeps waiting word (bundle c flags h).0 (bundle c flags h).1 (bundle_keeps flags h e f)

  flag_word_keeps : (waiting : Waiting) (word : Text) (o : Option (Text × Option Text)) (h : Held) → flag_word_fault c again o word h ≡ [] → F h.rows
      → F (long_or_other c waiting word o h).0.rows
  flag_word_keeps waiting word None h e f = short_word_keeps waiting word (short_of word) h e f
  flag_word_keeps waiting word (Some p) h e f =
      after_flag_keeps waiting word (long_met c (arg_by_long c p.0) p.1 h).0 (long_met c (arg_by_long c p.0) p.1 h).1 (long_keeps (arg_by_long c p.0) p.1 h (known _) e f)

  to_positional_keeps : (o : Option Rule) (word : Text) (w : Walk) (h : Held) (stray : Kinds) → option_map_or (λ a. positional_fault c again a h) o stray ≡ [] → F h.rows
      → F (to_positional c o word w h).held.rows
  to_positional_keeps None word w h stray e f = f
  to_positional_keeps (Some a) word w h stray e f = go (is_pending a h.pending && takes_several a) e
    where
      go : (b : Bool) → cond b [] (settle_fault c again h) ≡ [] → F (cond b h (settled c h)).rows
      go true fault = f
      go false fault = settled_keeps h fault f

-- ---- the walk of a command

module _ (s : Shape) (names : Names) (F : List Row → Type 0) (uses : Each (KeepsRows F s.args_override_self) s.rules) where
  other_keeps : (o : Option Text) (waiting : Waiting) (position : ℕ) (word : Text) (h : Held) → other_fault s o word h ≡ [] → F h.rows
      → F (subcommand_or_other s.rules o waiting position word h).0.rows
  other_keeps (Some name) waiting position word h e f = f
  other_keeps None waiting position word h e f = go (bytes_eq word (45 ∷ 45 ∷ [])) e
    where
      go : (b : Bool) → cond b [] (flag_word_fault s.rules s.args_override_self (long_of word) word h) ≡ []
          → F (cond b (h, trailing position) (long_or_other s.rules waiting word (long_of word) h)).0.rows
      go true fault = f
      go false fault = flag_word_keeps s.rules s.args_override_self F uses waiting word (long_of word) h fault f

  word_keeps : (is_trailing : Bool) (waiting : Waiting) (position : ℕ) (word : Text) (h : Held) → word_fault s names is_trailing waiting word h ≡ [] → F h.rows
      → F (word_met s.rules names is_trailing waiting position word h).0.rows
  word_keeps true waiting position word h e f = f
  word_keeps false waiting position word h e f = other_keeps (subcommand_met names waiting word) waiting position word h e f

  step_keeps : (word : Text) (w : Walk) (h : Held) (step : Step) → step_fault s w.position h step ≡ [] → F h.rows → F (after_step s.rules word w h step).held.rows
  step_keeps word w h (next waiting) e f = f
  step_keeps word w h (trailing position) e f = f
  step_keeps word w h (subcommand name) e f = f
  step_keeps word w h value e f = to_positional_keeps s.rules s.args_override_self F uses (arg_by_index s.rules w.position) word w h (stray_fault s) e f

  turn_keeps : (w : Walk) (word : Text) → turn_fault s names w word ≡ [] → F w.held.rows → F (walked s.rules names w word).held.rows
  unfolding walked
  turn_keeps w word e f = go w.stopped e
    where
      go : (o : Option (Text × List Text))
          → cond (is_some o) [] (or_else (word_fault s names w.is_trailing w.waiting word w.held)
          (step_fault s w.position (word_met s.rules names w.is_trailing w.waiting w.position word w.held).0 (word_met s.rules names w.is_trailing w.waiting w.position word w.held).1)) ≡ []
          → F (walked_from s.rules names o w word).held.rows
      go (Some p) fault = f
      go None fault =
          let parts = neither _ _ fault in
          let met = word_met s.rules names w.is_trailing w.waiting w.position word w.held in
          step_keeps word w met.0 met.1 parts.1 (word_keeps w.is_trailing w.waiting w.position word w.held parts.0 f)

  pub walk_keeps : (words : List Text) (w : Walk) → walk_fault s names w words ≡ [] → F w.held.rows → F (fold (walked s.rules names) w words).held.rows
  unfolding walk_fault
  walk_keeps [] w e f = f
  walk_keeps (word ∷ rest) w e f =
      let parts = neither _ _ e in
      walk_keeps rest (walked s.rules names w word) parts.1 (turn_keeps w word parts.0 f)

-- What was found of files, one after another, and the lines of their faults.
use Rattle.std.proofs.Common.{◌≡◌, ◌∙◌, ℕ, ◌+◌, ◌<◌, ◌≤◌, sym, subst, ap, refl, List, [], ◌∷◌, ◌++◌, length, take, get_or, Option, Some, None, append-nil, Bor, arith}
use Rattle.std.specs.Prelude.{IfSome, cond, count_by, flat_map, is_some}
use Rattle.std.proofs.lemmas.Grind.{flat_map-append}
use Rattle.std.proofs.lemmas.List.Sums.{sum_by-append}
use Rattle.std.proofs.lemmas.List.{take_all, take_more, map-append}
use Rattle.std.specs.Io.KnownBytes.{Keeps}
use Rattle.std.specs.List.{AllZip}
use Rattle.clap.specs.Walk.{Text}
use Rattle.ix_files.specs.Reading.{Holding}
use Rattle.ix_line.specs.Lines.{texts_of}
use Rattle.ix_ask.specs.declared.output.Lines.{Lines}
use Rattle.ix_command.specs.CheckedFiles.{AreLookedAt, GainsFault, IsCheckRefused, IsJudged, IsLookedAt, LooksAt, TellsMemory, count_with, fault_line, fault_of, line_or_none}
use Rattle.ix_command.specs.Refusals.{IsUnwritten}
use Rattle.ix_command.specs.Refusals.{text_of}
use Rattle.ix_command.specs.declared.refusal.Refusal.{Refusal}
use Rattle.ix_command.specs.declared.refusal.Refusal.TheVariants as refusal

-- the text of another refusal than that of a file that cannot be read
pub fault_text : (told : Refusal) → ((path : Bor Text) → told ≡ refusal.Read path → ⊥) → fault_of told ≡ text_of told
fault_text refusal.Arguments other = refl
fault_text (refusal.Engine error) other = refl
fault_text (refusal.Read path) other = absurd (other path refl)
fault_text (refusal.ReadAdded path) other = refl
fault_text (refusal.Write path) other = refl
fault_text (refusal.NotUtf8 path) other = refl
fault_text (refusal.Same path) other = refl
fault_text (refusal.Locked path) other = refl
fault_text (refusal.Script error) other = refl
fault_text (refusal.Live error) other = refl
fault_text (refusal.Archive error) other = refl

-- its line
pub gains_fault : (told : Refusal) (text path old new : Text) → ((named : Bor Text) → told ≡ refusal.Read named → ⊥) → IfSome (text_of told) (λ t. text ≡ t)
    → new ≡ old ++ fault_line path text → GainsFault path told old new
gains_fault told text path old new other spelled gained = record {
  line = fault_line path text;
  spelled = subst (λ (o : Option Text). IfSome o (λ fault. fault_line path text ≡ fault_line path fault)) (sym (fault_text told other)) (go (text_of told) spelled);
  gained = gained;
}
  where
    go : (o : Option Text) → IfSome o (λ t. text ≡ t) → IfSome o (λ fault. fault_line path text ≡ fault_line path fault)
    go None e = tt
    go (Some t) e = ap (fault_line path) e

-- ---- one file after another

-- P of two lists, one more
zip_more : {X Y : Type 0} (R : X → Y → Type 0) (xs : List X) (ys : List Y) (x : X) (y : Y) → AllZip R xs ys → R x y → AllZip R (xs ++ x ∷ []) (ys ++ y ∷ [])
zip_more R [] [] x y all r = (r, tt)
zip_more R [] (b ∷ ys) x y all r = absurd all
zip_more R (a ∷ xs) [] x y all r = absurd all
zip_more R (a ∷ xs) (b ∷ ys) x y all r = (all.0, zip_more R xs ys x y all.1 r)

count_more : (all : List (Option Text)) (found : Option Text) → count_by is_some (all ++ found ∷ []) ≡ count_with found (count_by is_some all)
count_more all found = sum_by-append (λ (o : Option Text). cond (is_some o) 1 0) all (found ∷ []) ∙ go found
  where
    go : (one : Option Text) → count_by is_some all + count_by is_some (one ∷ []) ≡ count_with one (count_by is_some all)
    go None = omega arith
    go (Some line) = omega arith

pub looked_none : (holds : Holding) (lines : Text) → lines ≡ [] → AreLookedAt holds [] lines 0
looked_none holds lines empty = record { found = []; each = tt; spelled = empty; counted = refl }

pub looked_more : (holds : Holding) (paths : List (Bor Text)) (i : ℕ) (d : Bor Text) (old new : Lines) → i < length paths → AreLookedAt holds (texts_of (take i paths)) old.bytes.items old.count
    → LooksAt holds (get_or paths i d).now old new → AreLookedAt holds (texts_of (take (i + 1) paths)) new.bytes.items new.count
looked_more holds paths i d old new low so_far one = record {
  found = so_far.found ++ one.found ∷ [];
  each = subst (λ (texts : List Text). AllZip (IsLookedAt holds) texts (so_far.found ++ one.found ∷ [])) (sym (ap texts_of (take_more paths i d low) ∙ map-append (λ (word : Bor Text). word.now) (take i paths) (get_or paths i d ∷ [])))
      (zip_more (IsLookedAt holds) (texts_of (take i paths)) so_far.found (get_or paths i d).now one.found so_far.each one.looked_at);
  spelled = one.gained ∙ ap (λ l. l ++ line_or_none one.found) so_far.spelled ∙ ap (λ l. flat_map line_or_none so_far.found ++ l) (sym (append-nil (line_or_none one.found)))
      ∙ sym (flat_map-append line_or_none so_far.found (one.found ∷ []));
  counted = one.counted ∙ ap (count_with one.found) so_far.counted ∙ sym (count_more so_far.found one.found);
}

-- no more files have a fault than were looked at
pub few_faults : (found : Option Text) (old new i : ℕ) → old ≤ i → new ≡ count_with found old → new ≤ i + 1
few_faults None old new i few is = omega arith
few_faults (Some line) old new i few is = omega arith

pub looked_whole : (holds : Holding) (paths : List (Bor Text)) (i : ℕ) (lines : Text) (count : ℕ) → length paths ≤ i → AreLookedAt holds (texts_of (take i paths)) lines count
    → AreLookedAt holds (texts_of paths) lines count
looked_whole holds paths i lines count all looked =
    subst (λ (xs : List (Bor Text)). AreLookedAt holds (texts_of xs) lines count) (take_all i paths all) looked

-- a file that has a fault, and one that has none
pub looks_faulty : (holds : Holding) (path : Text) (told : Refusal) (old new : Lines) → IsJudged holds path (Some told) → GainsFault path told old.bytes.items new.bytes.items → new.count ≡ old.count + 1
    → LooksAt holds path old new
looks_faulty holds path told old new judged fault counted = record {
  found = Some fault.line;
  looked_at = record { told = told; refuses = judged.0; settled = judged.1; spelled = fault.spelled };
  gained = fault.gained;
  counted = counted;
}

pub looks_sound : (holds : Holding) (path : Text) (lines : Lines) → IsJudged holds path None → LooksAt holds path lines lines
looks_sound holds path lines judged = record { found = None; looked_at = judged; gained = sym (append-nil lines.bytes.items); counted = refl }

-- ---- the command

pub memory_refused : (holds : Holding) (paths : List Text) (old new : Option Text) (told : Refusal) → TellsMemory told → Keeps old new → IsCheckRefused holds paths old new told
memory_refused holds paths old new (refusal.Engine error) memory keeps = (memory, keeps)
memory_refused holds paths old new refusal.Arguments memory keeps = absurd memory
memory_refused holds paths old new (refusal.Read path) memory keeps = absurd memory
memory_refused holds paths old new (refusal.ReadAdded path) memory keeps = absurd memory
memory_refused holds paths old new (refusal.Write path) memory keeps = absurd memory
memory_refused holds paths old new (refusal.NotUtf8 path) memory keeps = absurd memory
memory_refused holds paths old new (refusal.Same path) memory keeps = absurd memory
memory_refused holds paths old new (refusal.Locked path) memory keeps = absurd memory
memory_refused holds paths old new (refusal.Script error) memory keeps = absurd memory
memory_refused holds paths old new (refusal.Live error) memory keeps = absurd memory
memory_refused holds paths old new (refusal.Archive error) memory keeps = absurd memory

pub cut_refused : (holds : Holding) (paths : List Text) (old new : Option Text) (lines : Text) (count : ℕ) (told : Refusal) → AreLookedAt holds paths lines count → IsUnwritten lines old new told
    → IsCheckRefused holds paths old new told
cut_refused holds paths old new lines count (refusal.Write path) looked unwritten = (unwritten.0, record { lines = lines; count = count; looked_at = looked; front = unwritten.1 })
cut_refused holds paths old new lines count (refusal.Engine error) looked unwritten = absurd unwritten
cut_refused holds paths old new lines count refusal.Arguments looked unwritten = absurd unwritten
cut_refused holds paths old new lines count (refusal.Read path) looked unwritten = absurd unwritten
cut_refused holds paths old new lines count (refusal.ReadAdded path) looked unwritten = absurd unwritten
cut_refused holds paths old new lines count (refusal.NotUtf8 path) looked unwritten = absurd unwritten
cut_refused holds paths old new lines count (refusal.Same path) looked unwritten = absurd unwritten
cut_refused holds paths old new lines count (refusal.Locked path) looked unwritten = absurd unwritten
cut_refused holds paths old new lines count (refusal.Script error) looked unwritten = absurd unwritten
cut_refused holds paths old new lines count (refusal.Live error) looked unwritten = absurd unwritten
cut_refused holds paths old new lines count (refusal.Archive error) looked unwritten = absurd unwritten

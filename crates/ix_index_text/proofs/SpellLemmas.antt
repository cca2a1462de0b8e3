-- What went out and what is pending, over the steps of a writer.
use Rattle.std.proofs.Common.{◌≡◌, ℕ, List, [], ◌++◌, Option, subst, sym, ap, ◌∙◌, append_assoc}
use Rattle.std.proofs.lemmas.List.{append-nil}
use Rattle.std.specs.Io.KnownBytes.{Appends}
use Rattle.ix_output.specs.Sinks.{AppendsFront}
use Rattle.ix_output.proofs.SinkLemmas.{appends_then}
use Rattle.ix_index_text.specs.Telling.{Spells}

-- what was pending went out
pub spells_sent : (before now new : Option (List ℕ)) (pending left text : List ℕ) → Spells before now pending text → Appends now new pending → left ≡ [] → Spells before new left text
spells_sent before now new pending left text spells gained none = record {
  gone = spells.gone ++ pending;
  gained = appends_then before now new spells.gone pending spells.gained gained;
  spelled = ap (λ bytes. (spells.gone ++ pending) ++ bytes) none ∙ append-nil (spells.gone ++ pending) ∙ spells.spelled;
}

-- a front of what was pending went out
pub spells_front : (before now new : Option (List ℕ)) (pending text : List ℕ) → Spells before now pending text → AppendsFront now new pending → AppendsFront before new text
spells_front before now new pending text spells part = record {
  front = spells.gone ++ part.front;
  rest = part.rest;
  parts = sym spells.spelled ∙ ap (λ bytes. spells.gone ++ bytes) part.parts ∙ sym (append_assoc spells.gone part.front part.rest);
  gained = appends_then before now new spells.gone part.front spells.gained part.gained;
}

-- where nothing is pending, the text went out
pub all_spelled : (before now : Option (List ℕ)) (pending text : List ℕ) → Spells before now pending text → pending ≡ [] → Appends before now text
all_spelled before now pending text spells none =
    subst (Appends before now) (sym (append-nil spells.gone) ∙ ap (λ bytes. spells.gone ++ bytes) (sym none) ∙ spells.spelled) spells.gained

-- bytes more went out, and nothing is pending
pub spells_behind : (before now new : Option (List ℕ)) (pending bytes text : List ℕ) → Spells before now pending text → pending ≡ [] → Appends now new bytes → Spells before new pending (text ++ bytes)
spells_behind before now new pending bytes text spells none gained = record {
  gone = text ++ bytes;
  gained = appends_then before now new text bytes (all_spelled before now pending text spells none) gained;
  spelled = ap (λ part. (text ++ bytes) ++ part) none ∙ append-nil (text ++ bytes);
}

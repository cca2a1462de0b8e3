-- A reader of a run text that has read the head.
use Rattle.std.proofs.Common.{◌≡◌, ℕ, ◌+◌, ◌^◌, ◌≤◌, List, [], ◌∷◌, ◌++◌, length, Option, Some, None, IfSome, refl, sym, ap, subst, ◌∙◌, arith}
use Rattle.std.proofs.lemmas.List.{append_assoc, length-map}
use Rattle.std.proofs.lemmas.List.Elements.{All-nil}
use Rattle.std.specs.Io.KnownBytes.{Consumes}
use Rattle.std.specs.List.{flat_map}
use Rattle.std.specs.List.Sorted.{IsStrictlySortedBy}
use Rattle.ix_text.specs.Collections.{Collection}
use Rattle.ix_text.specs.Parts.{DictionaryEntry, Parts, row_of}
use Rattle.ix_text.specs.PartsLaws.{IsLawfulTerm}
use Rattle.ix_text.proofs.PartsLawful.{lawful_parts}
use Rattle.ix_run_text.specs.Heads.{Heading, IsLawfulHeading, parts_with}
use Rattle.ix_run_text.specs.Reading.{LieAhead, LieBehind, Checked, MayLieAhead, Standing, Told, bytes_ahead, heading_from}
use Rattle.ix_run_text.specs.RunText.{IsRunText, head_bytes, heading_bytes, run_layout, term_bytes}
use Rattle.ix_run_text.specs.Sources.{AreWhole}
use Rattle.ix_run_text.specs.declared.run_reader.Place.TheVariants.{Begun}

-- no entry yet, under a lawful heading
whole_none : (heading : Heading) → IsLawfulHeading heading → AreWhole heading []
unfolding IsStrictlySortedBy
whole_none heading is = record {
  lawful = record {
    stop_terms = is.stop.terms;
    stop_ascending = is.stop.ascending;
    few_stop_terms = is.stop.few;
    names = is.names;
    few_documents = (let few = is.few_documents in omega arith);
    few_tokens = is.few_tokens;
    ascending = tt;
    terms = All-nil (IsLawfulTerm (parts_with heading []));
    apart = λ one other number position a b p q. absurd (omega (arith, a.1));
  };
  within = is.few_documents;
}

-- the layout of parts is their head, and then the entries and the end mark
pub layout_parts : (first : ℕ) (parts : Parts) → run_layout first parts ≡ heading_bytes (heading_from first parts) ++ bytes_ahead [] parts.entries
unfolding run_layout head_bytes
layout_parts first parts = append_assoc (heading_bytes (heading_from first parts)) (flat_map term_bytes parts.entries) (128 ∷ [])

module _ (heading : Heading) (checked : Checked) (last : List ℕ) (none : last ≡ []) where
  -- where it stands
  abbrev pub opened : Standing
  opened = record { heading = heading; place = Begun; last = last; next = 0; documents = 0; bytes = 0; checked = checked }

  pub unread : IsLawfulHeading heading → Told opened [] → LieBehind opened [] None
  unread lawful held = record {
    lawful = record { whole = whole_none heading lawful; begun = tt };
    of_term = refl;
    last = none;
    next = tt;
    posted = λ _. tt;
    marked = held;
    distinct = tt;
  }

  -- what it yields is what the bytes spell
  pub opened_yields : (source left : Option (List ℕ)) (bytes : List ℕ) (entries : List DictionaryEntry) → IsLawfulHeading heading → Told opened [] → Consumes source left (heading_bytes heading) → source ≡ Some bytes
      → MayLieAhead opened left [] entries → (bytes ≡ run_layout heading.first (parts_with heading entries)) × AreWhole heading entries
  opened_yields source left bytes entries lawful held consumes known ahead =
      (by left (subst (λ (s : Option (List ℕ)). Consumes s left (heading_bytes heading)) known consumes) (ahead.spelled (λ e. cc)), ahead.whole [] None (unread lawful held))
    where
      by : (after : Option (List ℕ)) → Consumes (Some bytes) after (heading_bytes heading) → IfSome after (λ rest. rest ≡ bytes_ahead [] entries) → bytes ≡ run_layout heading.first (parts_with heading entries)
      by None taken spelled = absurd taken
      by (Some rest) taken spelled = taken ∙ ap (λ (r : List ℕ). heading_bytes heading ++ r) spelled ∙ sym (layout_parts heading.first (parts_with heading entries))

  -- and what they spell lies ahead
  pub opened_faces : (left : Option (List ℕ)) (entries : List DictionaryEntry) → IsLawfulHeading heading → Told opened [] → AreWhole heading entries → left ≡ Some (bytes_ahead [] entries) → LieAhead opened left [] entries
  opened_faces left entries lawful held whole known = record {
    finished = [];
    at_hand = None;
    behind = unread lawful held;
    are = record { counted = refl; sized = refl; ended = λ e. absurd (cc) };
    whole = whole;
    going = λ e. cc;
    spelled = λ _. known;
  }

-- the heading of a run text and its entries
module _ (first : ℕ) (collection : Collection) (bytes : List ℕ) (is : IsRunText first collection bytes) where
  text_few : first + length is.parts.rows ≤ 2 ^ 28
  text_few = (let within = is.within in let rows = ap length is.of_collection.rows in let size = length-map collection.documents row_of in omega arith)

  pub text_whole : AreWhole (heading_from first is.parts) is.parts.entries
  text_whole = record { lawful = lawful_parts collection is.parts is.lawful is.of_collection; within = text_few }

  pub text_heading : IsLawfulHeading (heading_from first is.parts)
  text_heading =
      let lawful = lawful_parts collection is.parts is.lawful is.of_collection in
      record {
        stop = record { few = lawful.few_stop_terms; ascending = lawful.stop_ascending; terms = lawful.stop_terms };
        names = lawful.names;
        few_tokens = lawful.few_tokens;
        few_documents = text_few;
      }

  pub text_parts : bytes ≡ heading_bytes (heading_from first is.parts) ++ bytes_ahead [] is.parts.entries
  text_parts = is.spelled ∙ layout_parts first is.parts

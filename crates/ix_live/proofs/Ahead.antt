-- The version that is grown goes on from what is shown.
use Rattle.std.proofs.Common.{◌≡◌, List, [], ◌∷◌, ◌++◌, Result, Ok, Err, ap, sym, subst, ◌∙◌}
use Rattle.std.specs.Prelude.{OnErr, OnOk}
use Rattle.std.proofs.lemmas.List.{append-nil}
use Rattle.logbook.specs.Pages.{Named}
use Rattle.ix_live.specs.Histories.{Known, operations_of, published, waiting}
use Rattle.ix_live.specs.Indexers.{IsAhead}
use Rattle.ix_live.specs.Logs.{Reached, head_of}
use Rattle.ix_live.specs.Operations.{Operation}
use Rattle.ix_live.specs.Segments.{joined}
use Rattle.ix_live.specs.Versions.{VersionValue}
use Rattle.ix_live.proofs.Beginnings.{prefix_trans}
use Rattle.ix_live.proofs.Pasts.{operations_published, operations_waiting}

module _ (shown : Known) (next : VersionValue) (reached : Reached) (head : Named) (ahead : IsAhead shown next reached head) where
  -- operations more are pending, or nothing has changed
  pub ahead_waiting : {T E : Type 0} (result : Result T E) (after : VersionValue) (more : List Operation) → after.stop ≡ next.stop → OnOk result (after.past ≡ waiting next.past more) → OnErr result (after ≡ next)
      → IsAhead shown after reached head
  ahead_waiting (Ok value) after more same is kept = record {
    stop = ahead.stop ∙ sym same;
    book = ahead.book;
    publishes = ahead.publishes ∙ sym (ap (λ p. p.publishes) is);
    begins = prefix_trans (joined reached.entries) (operations_of next.past) (operations_of after.past) ahead.begins (more, sym (ap operations_of is ∙ operations_waiting next.past more));
    head_is = ahead.head_is;
  }
  ahead_waiting (Err error) after more same is kept = subst (λ (v : VersionValue). IsAhead shown v reached head) (sym kept) ahead

  -- the log has all operations, and what is shown is as it was
  pub ahead_logged : (still : Known) (all : Reached) → still ≡ shown → all.book ≡ reached.book → joined all.entries ≡ operations_of next.past → IsAhead still next all head
  ahead_logged still all same book logged = record {
    stop = ap (λ (k : Known). k.stop) same ∙ ahead.stop;
    book = ap (λ (k : Known). k.history.book) same ∙ ahead.book ∙ sym book;
    publishes = ap (λ (k : Known). k.history.publishes) same ∙ ahead.publishes;
    begins = ([], append-nil (joined all.entries) ∙ logged);
    head_is = ahead.head_is ∙ ap head_of (sym book);
  }

  -- all that was pending is shown
  pub ahead_published : (now : Known) (after : VersionValue) (all again : Reached) → after ≡ record { stop = next.stop; past = published next.past; pieces = next.pieces }
      → now ≡ record { stop = next.stop; history = record { book = again.book; publishes = next.past.publishes ++ next.past.pending ∷ [] } } → again ≡ all → all.book ≡ reached.book
      → joined all.entries ≡ operations_of next.past → IsAhead now after all head
  ahead_published now after all again is same copied book logged = record {
    stop = ap (λ (k : Known). k.stop) same ∙ sym (ap (λ (v : VersionValue). v.stop) is);
    book = ap (λ (k : Known). k.history.book) same ∙ ap (λ (r : Reached). r.book) copied;
    publishes = ap (λ (k : Known). k.history.publishes) same ∙ sym (ap (λ (v : VersionValue). v.past.publishes) is);
    begins = ([], append-nil (joined all.entries) ∙ logged ∙ sym (operations_published next.past) ∙ sym (ap (λ (v : VersionValue). operations_of v.past) is));
    head_is = ahead.head_is ∙ ap head_of (sym book);
  }

-- Which places a tour has passed.
use Rattle.std.specs.Prelude.{ℕ, ◌+◌, ◌<◌, ◌≤◌}
use Rattle.ix_board.specs.declared.tour.Tour.{Tour}

-- Place k does not stand among the next ones of the circle, as many as are left.
abbrev pub HasPassed : Tour → ℕ → Type 0
HasPassed t k = (t.next ≤ k → t.next + t.left ≤ k) × (k < t.next → t.next + t.left ≤ k + t.count)

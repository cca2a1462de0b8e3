use Rattle.ix_vbyte.proofs.Gaps.{Ascends-rising, Ascends-within, Ascends-from}
use Rattle.ix_vbyte.proofs.laws.ascending.Goals as goal

pub returns : goal.returns
returns c low top xs = (λ a. (Ascends-rising low top xs a, Ascends-within low top xs a), λ h. Ascends-from low top xs h.0 h.1)

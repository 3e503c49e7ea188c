-- The proofs of `NormalizedFits`, where an answer whose number is 0 is done, and of `ReadFits`: each is a law of the makers' own crate. Assumes nothing.
use mathlib.Core.Bool.{Bool}
use Rattle.normalizer.specs.Answer.{precision_in}
use Rattle.normalizer.specs.Left.{answer_for}
use Rattle.normalizer.proofs.Left.{left_fits}
use Rattle.reader.proofs.ReadingLaws as reader
use Rattle.promises.specs.MakersFit.{NormalizedFits, ReadFits}
use Rattle.promises.proofs.Accepted.{normalized_done}

pub normalized_fits : NormalizedFits
normalized_fits store s out excesses done =
    let answer = answer_for store s out excesses in
    left_fits store s out excesses (precision_in answer) (normalized_done answer done)

pub read_fits : (wide : Bool) → ReadFits wide
read_fits wide text lent v w left loaded = reader.left_fits wide text lent v w left loaded

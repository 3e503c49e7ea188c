-- "CLIP8_LOOKUPS has 1,280 entries for -640 to 639: 0 below 0, the number itself from 0 to 255, 255 above."
-- Place k of the table stands for k - 640. No statement can name a table of the code; `lookup` of clips reads it at every k below 1,280, and the rule is said of
-- whatever its contract lets it give there (`TableRule`). All 1,280 entries are compared in one computed test, where `lookup` is proved.
-- A statement only. Assumes nothing.
use Rattle.clips.proofs.Lookups.{TableRule}

abbrev pub ClipRule : Type 0
ClipRule = TableRule

-- The lines that the program prints.
use Rattle.std.specs.Prelude.{ℕ, List, ◌++◌, codes, decimal}
use Rattle.energy.specs.Units.{kwh_text}
use Rattle.rationing.specs.Share.{share_text}
use Rattle.tizgrel.specs.declared.award_line.AwardLine.{AwardLine}

-- A claim's place from 1, its kWh, its exact share and its award.
abbrev pub award_text : AwardLine → List ℕ
award_text line =
    codes "claim " ++ (decimal line.place ++ (codes ": " ++ (kwh_text line.claim
    ++ (codes ", exact share " ++ (share_text line.share ++ (codes ", award " ++ kwh_text line.award))))))

-- Reports: which lists of diagnostics are one, and how a diagnostic is written (docs/definitions.md, Report).
use Rattle.std.specs.Prelude.{◌≡◌, ℕ, List, ◌++◌, ◌↔◌, AllPairs, Contains, length, codes}
use Rattle.std.specs.List.{flat_map}
use Rattle.std.specs.Ordering.{nat_cmp, ordering_then}
use Rattle.std.specs.declared.cmp.Ordering.{Ordering}
use Rattle.std.specs.declared.cmp.Ordering.TheVariants.{Less}
use Rattle.std.specs.Fmt.{decimal}
use Rattle.hack_base.specs.Files.{byte_order}
use Rattle.hack_base.specs.Script.{newline}
use Rattle.hack_types.specs.declared.place.Place.{Place}
use Rattle.hack_types.specs.declared.diag.FileDiag.{FileDiag}

-- by line, then by column
abbrev pub place_order : Place → Place → Ordering
place_order a b = ordering_then (nat_cmp a.line b.line) (nat_cmp a.column b.column)

-- by file, place, code and text
abbrev pub report_order : FileDiag → FileDiag → Ordering
report_order a b =
    ordering_then (byte_order a.file b.file)
    (ordering_then (place_order a.diag.at b.diag.at)
    (ordering_then (nat_cmp a.diag.code b.diag.code)
    (byte_order a.diag.text b.diag.text)))

-- the one strictly rising list of exactly the diagnostics that hold
pub record IsReport (Holds : FileDiag → Type 0) (list : List FileDiag) : Type 0 where
  pub rising : AllPairs (λ a b. report_order a b ≡ Less) list
  pub exactly : (d : FileDiag) → Contains list d ↔ Holds d

-- `FILE:LINE:COLUMN CODE TEXT` and LF
abbrev pub diag_line : FileDiag → List ℕ
diag_line d =
    d.file ++ codes ":" ++ decimal d.diag.at.line ++ codes ":" ++ decimal d.diag.at.column ++ codes " " ++ decimal d.diag.code
    ++ codes " " ++ d.diag.text ++ newline

-- the reply to the check of this number: `check K errors M` and LF, where M is the length of the list, and the lines of the list
abbrev pub report_text : ℕ → List FileDiag → List ℕ
report_text k report = codes "check " ++ decimal k ++ codes " errors " ++ decimal (length report) ++ newline ++ flat_map diag_line report

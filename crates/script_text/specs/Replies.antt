-- The bytes of a reply (docs/script.md, Replies).
use Rattle.std.specs.Prelude.{ℕ, List, ◌++◌, codes}
use Rattle.std.specs.Fmt.{decimal}
use Rattle.hack_base.specs.Script.{newline}
use Rattle.hack_types.specs.Report.{report_text}
use Rattle.script_text.specs.declared.reply.Reply.{Reply}
use Rattle.script_text.specs.declared.reply.Reply.TheVariants.{Edit, NoFile, Report, Cancelled}

-- the reply to an accepted edit, with its number
abbrev pub edit_text : ℕ → List ℕ
edit_text number = codes "edit " ++ decimal number ++ newline

-- the reply to an edit that would take away a file that isn't there
abbrev pub no_file_text : List ℕ
no_file_text = codes "no file" ++ newline

-- the reply to the check of this number, which was begun and cancelled
abbrev pub cancelled_text : ℕ → List ℕ
cancelled_text number = codes "check " ++ decimal number ++ codes " cancelled" ++ newline

abbrev pub reply_text : Reply → List ℕ
reply_text (Edit number) = edit_text number
reply_text NoFile = no_file_text
reply_text (Report number report) = report_text number report.items
reply_text (Cancelled number) = cancelled_text number

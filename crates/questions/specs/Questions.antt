-- Interface. What ask prints for a line that asks read, judge, forced, group or table of a name (docs/FORMAT.md, "Asking line by line").
use Rattle.std.specs.Prelude.{ℕ, List, Ok, Err}
use Rattle.text.specs.Ascii.{ascii}
use Rattle.words.specs.Words.{word_at, bytes_of, number_of}
use Rattle.words.specs.Complaints.{Complaining, complaint_of}
use Rattle.layout.specs.Layout.{reading}
use Rattle.sheet.specs.Verdict.{verdict}
use Rattle.judge.specs.Judge.{Stretch, judgement, table_of}
use Rattle.forced.specs.Forcing.{forcing}
use Rattle.group.specs.Grouping.{grouping}
use Rattle.lines.specs.Lines.{complaint_line, verdict_line, judgement_line, forcing_line, grouping_line, stretch_line}

-- the most bytes that the words of a line can stand for, and room for every answer line
abbrev pub most_decoded : ℕ
most_decoded = 131072

abbrev pub answer_room : ℕ
answer_room = 264192

-- the bytes and the number of word k, the verb being word 0
abbrev pub bytes_at : List ℕ → ℕ → List ℕ
bytes_at line k = bytes_of (word_at line k)

abbrev pub number_at : List ℕ → ℕ → ℕ
number_at line k = number_of (word_at line k)

-- a line whose words behind the verb are of these kinds, `b` for bytes, `n` for a number and `l` for a limit, has this answer; any other a complaint
abbrev pub complaint_or : Complaining → List ℕ → List ℕ
complaint_or (Ok x) answer = answer
complaint_or (Err wrong) answer = complaint_line wrong

abbrev pub unless_wrong : List ℕ → List ℕ → List ℕ → List ℕ
unless_wrong kinds line answer = complaint_or (complaint_of kinds line) answer

-- read SHEET
unfoldable pub read_reply : List ℕ → List ℕ
read_reply line = unless_wrong (ascii "b") line (verdict_line (verdict (reading (bytes_at line 1))))

-- judge SHEET TABLES
unfoldable pub judge_reply : List ℕ → List ℕ
judge_reply line = unless_wrong (ascii "bb") line (judgement_line (judgement (bytes_at line 1) (bytes_at line 2)))

-- forced SHEET A B
unfoldable pub forced_reply : List ℕ → List ℕ
forced_reply line = unless_wrong (ascii "bnn") line (forcing_line (forcing (bytes_at line 1) (number_at line 2) (number_at line 3)))

-- group SHEET E
unfoldable pub group_reply : List ℕ → List ℕ
group_reply line = unless_wrong (ascii "bn") line (grouping_line (grouping (bytes_at line 1) (number_at line 2)))

-- table SHEET TABLES NAME
abbrev pub stretch_reply : Stretch → List ℕ
stretch_reply s = stretch_line s.start s.many

unfoldable pub table_reply : List ℕ → List ℕ
table_reply line = unless_wrong (ascii "bbn") line (stretch_reply (table_of (bytes_at line 1) (bytes_at line 2) (number_at line 3)))

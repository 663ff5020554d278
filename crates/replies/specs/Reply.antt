-- Interface. WHAT ASK PRINTS for a line, whatever the line is (docs/FORMAT.md, "Asking line by line").
use Rattle.std.specs.Prelude.{ℕ, ◌-◌, cond, List, length, take, get_or, ltb, eqb}
use Rattle.prelude.specs.Tests.{same_list}
use Rattle.text.specs.Ascii.{ascii}
use Rattle.words.specs.Words.{word_at}
use Rattle.lines.specs.Lines.{empty_line, long_line, unknown_line}
use Rattle.questions.specs.Questions.{read_reply, judge_reply, forced_reply, group_reply, table_reply}
use Rattle.trails.specs.Trails.{walk_reply}
use Rattle.sizings.specs.Sizings.{sizes_reply}
use Rattle.findings.specs.Findings.{find_reply, findat_reply}
use Rattle.filings.specs.Filings.{fitted_reply}
use Rattle.bundlings.specs.Bundlings.{bundle_reply}

-- the answer by the verb, where it asks the search; and where it is any
abbrev pub search_reply : List ℕ → List ℕ → List ℕ
search_reply verb line =
    cond (same_list verb (ascii "find")) (find_reply line)
    (cond (same_list verb (ascii "sizes")) (sizes_reply line)
    (cond (same_list verb (ascii "findat")) (findat_reply line)
    (cond (same_list verb (ascii "fitted")) (fitted_reply line)
    (cond (same_list verb (ascii "bundle")) (bundle_reply line) unknown_line))))

unfoldable pub searched : List ℕ → List ℕ
searched line = search_reply (word_at line 0) line

abbrev pub verb_reply : List ℕ → List ℕ → List ℕ
verb_reply verb line =
    cond (same_list verb (ascii "read")) (read_reply line)
    (cond (same_list verb (ascii "judge")) (judge_reply line)
    (cond (same_list verb (ascii "forced")) (forced_reply line)
    (cond (same_list verb (ascii "group")) (group_reply line)
    (cond (same_list verb (ascii "table")) (table_reply line)
    (cond (same_list verb (ascii "walk")) (walk_reply line) (searched line))))))

unfoldable pub asked : List ℕ → List ℕ
asked line = verb_reply (word_at line 0) line

-- a carriage return at the end of a line is no part of it
unfoldable pub without_return : List ℕ → List ℕ
without_return line = cond (eqb (get_or line (length line - 1) 0) 13) (take (length line - 1) line) line

-- the most characters of a line
abbrev pub most_characters : ℕ
most_characters = 262144

abbrev pub sized : List ℕ → List ℕ
sized line = cond (eqb (length line) 0) empty_line (cond (ltb most_characters (length line)) long_line (asked line))

-- THE ANSWER LINE of a line
unfoldable pub reply : List ℕ → List ℕ
reply line = sized (without_return line)

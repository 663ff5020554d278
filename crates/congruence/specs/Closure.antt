-- The interface: which terms of a sheet the same statements force together, computed: the closure of the same statements under the
-- congruence rule. Terms have labels; those of one group have one label, which is the group's lowest-numbered term.
use Rattle.std.specs.Prelude.{ℕ, zero, suc, min, max, Bool, true, false, ◌&&◌, cond, List, map, length, eqb}
use Rattle.logic.specs.Sheet.{Sheet, Literal, term_at, literal_at}
use Rattle.prelude.specs.Tests.{same_list}
use Rattle.prelude.specs.Lists.{at, run}

-- hi becomes lo, every other label stays
abbrev pub relabel : ℕ → ℕ → ℕ → ℕ
relabel lo hi x = cond (eqb x hi) lo x

-- the groups of the terms i and j are made one: the higher of their labels becomes the lower everywhere
abbrev pub join : ℕ → ℕ → List ℕ → List ℕ
join i j l = map (relabel (min (at l i) (at l j)) (max (at l i) (at l j))) l

-- a same statement joins its two sides; a differ statement plays no part
abbrev pub join_sides : Literal → List ℕ → List ℕ
join_sides s l = cond s.equal (join s.left s.right l) l

-- two terms have one symbol, and arguments of equal labels
abbrev pub alike : Sheet → List ℕ → ℕ → ℕ → Bool
alike sh l i j =
    eqb (term_at sh i).symbol (term_at sh j).symbol
    && same_list (map (at l) (term_at sh i).args) (map (at l) (term_at sh j).args)

-- the congruence rule joins two terms that are alike
abbrev pub join_alike : Sheet → ℕ → ℕ → List ℕ → List ℕ
join_alike sh i j l = cond (alike sh l i j) (join i j l) l

-- f 0, then f 1, .. , then f (n - 1) changes the labels
abbrev pub for_each : ℕ → (ℕ → List ℕ → List ℕ) → List ℕ → List ℕ
for_each zero f l = l
for_each (suc n) f l = f n (for_each n f l)

-- each term is alone at the start, its label its own number; then each same statement joins its sides
unfoldable pub stated : Sheet → List ℕ
stated sh = for_each (length sh.literals) (λ k. join_sides (literal_at sh k)) (run 0 (length sh.terms))

-- one round of the congruence rule: each term with each earlier one
unfoldable pub round : Sheet → List ℕ → List ℕ
round sh l = for_each (length sh.terms) (λ j. for_each j (λ i. join_alike sh i j)) l

-- rounds until one changes nothing, at most as many as the first argument says
unfoldable pub rounds : ℕ → Sheet → List ℕ → List ℕ
rounds zero sh l = l
rounds (suc n) sh l =
    let next : List ℕ = round sh l in
    elim (same_list next l) [
      | true ↦ l
      | false ↦ rounds n sh next
    ]

-- the label of each term. As many rounds as there are terms are always enough: each but the last leaves fewer groups.
unfoldable pub labels : Sheet → List ℕ
labels sh = rounds (length sh.terms) sh (stated sh)

-- the number of a term's group: its label
abbrev pub group_of : Sheet → ℕ → ℕ
group_of sh e = at (labels sh) e

-- two terms lie in one group
abbrev pub together : Sheet → ℕ → ℕ → Bool
together sh a b = eqb (group_of sh a) (group_of sh b)

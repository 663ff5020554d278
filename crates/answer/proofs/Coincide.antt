-- Two structures that agree on a sheet's sorts and cells answer it alike.
use Prim.Native.Nat.{ℕ, ◌<◌}
use mathlib.Core.Path.{◌≡◌, ap, sym, ◌∙◌, subst}
use mathlib.Core.List.{List, [], ◌∷◌, map}
use lib.ListN.{length}
use native.Mathlib.Omega.{arith}
use Rattle.logic.specs.Sheet.{Sheet, symbol_at, term_at, fill_at}
use Rattle.prelude.specs.Tests.{Each}
use Rattle.prelude.specs.Lists.{at}
use Rattle.prelude.proofs.Lists.{firsts_same, sum_to_same}
use Rattle.logic.specs.WellFormed.{WellFormed}
use Rattle.logic.specs.Structure.{Structure, InSorts, Interprets, Candidate, Satisfies, codes, code}
use Rattle.logic.specs.Order.{sizes_of, sum_of, NoLater}
use Rattle.logic.proofs.Codes.{reached_in_params, same_code, same_codes, satisfies_same}
use Rattle.tables.specs.Layout.{decoded, encoded}
use Rattle.tables.proofs.Tables.{encoded_size, decoded_cell}
use Rattle.answer.specs.Answer.{Entry}
use Rattle.answer.specs.Demand.{Answers, AnswersAt, Unreached, Unforced}

-- N has M's sizes, and its tables hold what M's hold
pub record Coincide (sh : Sheet) (M N : Structure) : Type 0 where
  pub size : (s : ℕ) → s < length sh.bounds → N.size s ≡ M.size s
  pub table : (f : ℕ) → f < length sh.symbols → (cs : List ℕ) → InSorts M.size (symbol_at sh f).params cs → N.table f cs ≡ M.table f cs

-- THE ROUND TRIP: the structure that the bytes of M's tables hold
pub round_trip : (sh : Sheet) → WellFormed sh → (M : Structure) → Coincide sh M (decoded sh (encoded M sh))
round_trip sh w M = record { size = encoded_size M sh w; table = decoded_cell M sh w }

in_sorts_same : (n : ℕ) (size size' : ℕ → ℕ) → ((s : ℕ) → s < n → size' s ≡ size s) → (ss cs : List ℕ) → Each (λ s. s < n) ss → InSorts size' ss cs → InSorts size ss cs
in_sorts_same n size size' same [] [] e i = tt
in_sorts_same n size size' same [] (c ∷ cs) e i = i
in_sorts_same n size size' same (s ∷ ss) [] e i = i
in_sorts_same n size size' same (s ∷ ss) (c ∷ cs) e i =
    (rw (← same s e.0) i.0, in_sorts_same n size size' same ss cs e.1 i.1)

module _ (sh : Sheet) (w : WellFormed sh) (M N : Structure) (a : Coincide sh M N) where
  coincide_candidate : Candidate M sh → Candidate N sh
  coincide_candidate k =
      record {
        interprets = record {
          nonempty = λ s h. omega (arith, a.size s h, k.interprets.nonempty s h);
          complete = λ f h cs i.
              let j : InSorts M.size (symbol_at sh f).params cs = in_sorts_same (length sh.bounds) M.size N.size a.size (symbol_at sh f).params cs (w.params f h) i in
              omega (arith, a.table f h cs j, a.size (symbol_at sh f).result (w.result f h), k.interprets.complete f h cs j);
        };
        bounded = record {
          floor = λ s h. omega (arith, a.size s h, k.bounded.floor s h);
          ceiling = λ s h. omega (arith, a.size s h, k.bounded.ceiling s h);
          total = omega (arith, sum_to_same (length sh.bounds) N.size M.size a.size, k.bounded.total);
        };
      }

  -- their tables agree at the cells that terms reach
  reached : Interprets M sh → (i : ℕ) → i < length sh.terms → M.table (term_at sh i).symbol (map (code M sh) (term_at sh i).args) ≡ N.table (term_at sh i).symbol (map (code M sh) (term_at sh i).args)
  reached k i h =
      sym (a.table (term_at sh i).symbol (w.symbol i h) (map (code M sh) (term_at sh i).args) (reached_in_params M sh w k i h))

  coincide_codes : Interprets M sh → codes N sh ≡ codes M sh
  coincide_codes k = sym (same_codes M N sh w (reached k))

  -- a cell of N that no term reaches is such a cell of M, and holds the same
  coincide_unreached : Interprets M sh → (f : ℕ) → f < length sh.symbols → (xs : List ℕ) → InSorts N.size (symbol_at sh f).params xs → Unreached sh N f xs → Unreached sh M f xs × (N.table f xs ≡ M.table f xs)
  coincide_unreached k f h xs i free = (
    λ j l p q. free j l p (ap (λ (cs : List ℕ). map (at cs) (term_at sh j).args) (coincide_codes k) ∙ q),
    a.table f h xs (in_sorts_same (length sh.bounds) M.size N.size a.size (symbol_at sh f).params xs (w.params f h) i),
  )

  -- and so the unforced cells of N hold what `Unforced` says where those of M do
  pub coincide_unforced : Interprets M sh → Unforced sh M → Unforced sh N
  coincide_unforced k u =
      record {
        kept = λ f h keep x l free.
            let r = coincide_unreached k f h (x ∷ []) (subst (λ (ss : List ℕ). InSorts N.size ss (x ∷ [])) (sym keep) (l, tt)) free in
            r.1 ∙ u.kept f h keep x (omega (arith, a.size (symbol_at sh f).result (w.result f h))) r.0;
        filled = λ m h other xs i free.
            let f = (fill_at sh m).symbol in
            let r = coincide_unreached k f (w.filled m h) xs i free in
            r.1
            ∙ u.filled m h other xs (in_sorts_same (length sh.bounds) M.size N.size a.size (symbol_at sh f).params xs (w.params f (w.filled m h)) i) r.0
            ∙ ap (λ (cs : List ℕ). at cs (fill_at sh m).term) (sym (coincide_codes k));
        zero = λ f h other bare xs i free.
            let r = coincide_unreached k f h xs i free in
            r.1 ∙ u.zero f h other bare xs (in_sorts_same (length sh.bounds) M.size N.size a.size (symbol_at sh f).params xs (w.params f h) i) r.0;
      }

  module _ (k : Interprets M sh) where
    same : codes N sh ≡ codes M sh
    same = coincide_codes k

    sums : sum_of N sh ≡ sum_of M sh
    sums = sum_to_same (length sh.bounds) N.size M.size a.size

    sizes : sizes_of N sh ≡ sizes_of M sh
    sizes = firsts_same (length sh.bounds) N.size M.size a.size

    satisfied : Satisfies M sh → Satisfies N sh
    satisfied = satisfies_same M N sh (same_code M N sh w (reached k))

  pub coincide_answers : (e : Entry) → Answers sh e M → Answers sh e N
  coincide_answers e k =
      let i : Interprets M sh = k.candidate.interprets in
      record {
        candidate = coincide_candidate k.candidate;
        satisfies = satisfied i k.satisfies;
        sum = sums i ∙ k.sum;
        sizes = sizes i ∙ k.sizes;
        codes = same i ∙ k.codes;
        first = λ K c s.
            let m : NoLater sh M K = k.first K c s in
            record {
              sum = rw (sums i) m.sum;
              sizes = rw (sums i, sizes i) m.sizes;
              codes = rw (sizes i, same i) m.codes;
            };
      }

  pub coincide_answers_at : (z : List ℕ) (e : Entry) → AnswersAt sh z e M → AnswersAt sh z e N
  coincide_answers_at z e k =
      let i : Interprets M sh = k.candidate.interprets in
      record {
        candidate = coincide_candidate k.candidate;
        satisfies = satisfied i k.satisfies;
        sizes = sizes i ∙ k.sizes;
        sum = sums i ∙ k.sum;
        codes = same i ∙ k.codes;
        first = λ K c s q. rw (same i) (k.first K c s q);
      }

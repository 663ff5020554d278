-- `encoder::write_record` meets its contract: the stretch is the front of the seven bytes.
use native.Mathlib.Omega.{arith}
use mathlib.Core.Path.{◌≡◌, sym, ◌∙◌}
use Prim.Native.Nat.{◌+◌, ◌≤◌}
use mathlib.Core.List.{[], ◌∷◌}
use lib.ListN.{take}
use Rattle.std.proofs.lemmas.List.{length-take-le}
use Rattle.tables.proofs.Slices.{copied_whole}
use Rattle.encoder.specs.Parts.{record_bytes}
use Rattle.encoder.proofs.Placing.{wrote_stretch}
use Rattle.encoder.proofs.ShortRecords.{there_most, record_length, record_front}
use Rattle.encoder.proofs.write_record.Goals as goal

pub slice_bounds-bytes-end : goal.slice_bounds-bytes-end
slice_bounds-bytes-end c = omega (arith, there_most c.args.r.b1 c.args.r.b2)

pub slice_bounds-copy-end : goal.slice_bounds-copy-end
slice_bounds-copy-end c =
    let short : c.wide-n.result + 4 ≤ 7 = omega (arith, there_most c.args.r.b1 c.args.r.b2) in
    sym (length-take-le (c.wide-n.result + 4) _ short)

pub slice_bounds-copy-end-2 : goal.slice_bounds-copy-end-2
slice_bounds-copy-end-2 c = omega (arith, record_length c.args.r.kind c.args.r.b0 c.args.r.b1 c.args.r.b2)

pub returns : goal.returns
returns c =
    let r = c.args.r in
    let len = c.payload_length-len.result in
    let n = c.wide-n.result + 4 in
    let bytes = len ∷ 0 ∷ r.kind ∷ 0 ∷ r.b0 ∷ r.b1 ∷ r.b2 ∷ [] in
    let short : n ≤ 7 = omega (arith, there_most r.b1 r.b2) in
    let front : take n bytes ≡ record_bytes r = rw c.wide-n.ensures.0 (record_front r.kind r.b0 r.b1 r.b2 len c.payload_length-len.ensures) in
    wrote_stretch c.args.out.now _ _ c.args.start _ (omega (arith, record_length r.kind r.b0 r.b1 r.b2)) (omega (arith, record_length r.kind r.b0 r.b1 r.b2))
    (c.copy.ensures.1 ∙ copied_whole (take n bytes) _ (omega (arith, length-take-le n bytes short)) ∙ front)

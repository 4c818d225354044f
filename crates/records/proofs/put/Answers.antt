use mathlib.Core.Path.{◌≡◌, refl, ◌∙◌}
use lib.Seq.{drop-drop}
use Rattle.records.specs.Bytes.{little}
use Rattle.records.proofs.Little.{little_4, little_8}
use Rattle.records.proofs.Fronts.{set_front}
use Rattle.records.proofs.put.Goals as goal

pub returns : goal.returns
returns c =
    let old = c.args.out.now in
    let v : c.copy_from_slice.new.self ≡ little 4 c.args.v = c.copy_from_slice.ensures.after ∙ (c.to_le_bytes.ensures ∙ little_4 c.args.v) in
    let t : c.copy_from_slice-2.new.self ≡ little 4 c.args.t = c.copy_from_slice-2.ensures.after ∙ (c.to_le_bytes-2.ensures ∙ little_4 c.args.t) in
    let n : c.copy_from_slice-3.new.self ≡ little 4 c.args.n = c.copy_from_slice-3.ensures.after ∙ (c.to_le_bytes-3.ensures ∙ little_4 c.args.n) in
    let s : c.copy_from_slice-4.new.self ≡ little 8 c.args.s = c.copy_from_slice-4.ensures.after ∙ (c.to_le_bytes-4.ensures ∙ little_8 c.args.s) in
    rw (v, t, n, s, set_front old 80 c.args.second c.requires, drop-drop 4 2 old, drop-drop 4 6 old, drop-drop 4 10 old, drop-drop 8 14 old) refl

use Rattle.std.proofs.Common.{rules, ◌≡◌, ℕ, List, sym, subst}
use Rattle.mpc_rows.specs.LinearSystem.{LinearSystem}
use Rattle.mpc_rows.specs.Run.{is_refuted, turn, last_position}
use Rattle.mpc_whole.specs.declared.whole.Ending.{Ending}
use Rattle.mpc_whole.specs.declared.whole.Ending.TheVariants.{Refuted}
use Rattle.mpc_whole.specs.declared.judged.WidePlace.{WidePlace}
use Rattle.mpc_whole.specs.Lists.{Listed}
use Rattle.mpc_beginnings.specs.RunLists.{lists_of, weight_of}
use Rattle.mpc_beginnings.specs.Kept.{IsKept, AreKept}
use Rattle.mpc_beginnings.proofs.kept.KeptRun.multipliers.Goals as goal

kept_refuted : (s : LinearSystem) (k : List ℕ) (l : Listed) (weight : ℕ → ℕ) (p : WidePlace) (end : Ending) → IsKept s k l weight p end → (scales : List ℕ) → scales ≡ k → (x : ℕ) → turn s (last_position s) ≡ is_refuted x → IsKept s scales l weight p (Refuted x)
kept_refuted s k l weight p end z scales e x t =
    subst (λ (h : List ℕ). IsKept s h l weight p (Refuted x)) (sym e) (record {
      scales = z.scales;
      lists = z.lists;
      ended = record { form = z.ended.form; values = z.ended.values; before = z.ended.before; turns = t; fits = z.ended.fits };
      before = z.before;
    })

pub multipliers_of-requires-clause-kept : goal.multipliers_of-requires-clause-kept
multipliers_of-requires-clause-kept c =
    let r = c.self.inside in
    let d = c.last.result.now in
    let kept : AreKept r.system d.scales.items d.lists d.place d.end = subst (λ (t : LinearSystem). AreKept t d.scales.items d.lists d.place d.end) (sym c.self.view_is) c.last.ensures in
    let m = c.numbers_of-numbers.result in
    let same : m.scales.now ≡ d.scales.items = search rules in
    let ends : turn r.system (last_position r.system) ≡ is_refuted c.args.side = subst (λ (t : LinearSystem). turn t (last_position t) ≡ is_refuted c.args.side) (sym c.self.view_is) c.requires in
    record { kept = kept_refuted r.system d.scales.items (lists_of d.lists) (weight_of d.lists d.place.product) d.place d.end kept.kept m.scales.now same c.args.side ends; short = kept.short }

-- The seats in two parts.
use Rattle.std.proofs.Common.{◌-◌, List, ◌++◌, length, refl, sym, ap, ◌∙◌, arith}
use Rattle.std.proofs.lemmas.List.{length-append, get_or_append_left, get_or-append_right}
use mathlib.Core.Logic.{dite}
use native.Mathlib.Decide.{dec_lt}
use Rattle.mpc_workers.specs.declared.seats.Seat.{Seat}
use Rattle.mpc_workers.specs.Seats.{KeepWorkers}

pub keep_both : (xs ys new_xs new_ys : List Seat) → KeepWorkers xs new_xs → KeepWorkers ys new_ys → KeepWorkers (xs ++ ys) (new_xs ++ new_ys)
keep_both xs ys new_xs new_ys a b =
    let long = length-append xs ys in
    let new_long = length-append new_xs new_ys in
    let m = a.len in
    let n = b.len in
    record {
      len = omega (arith, long, new_long, m, n);
      each = λ i d l.
          dite (dec_lt i (length xs))
          (λ less. ap (λ (s : Seat). s.worker) (get_or_append_left new_xs new_ys d i (omega (arith, less, m))) ∙ (a.each i d less ∙ sym (ap (λ (s : Seat). s.worker) (get_or_append_left xs ys d i less))))
          (λ not_less.
          ap (λ (s : Seat). s.worker) (get_or-append_right new_xs new_ys (length xs) i d m (omega (arith, not_less)))
          ∙ (b.each (i - length xs) d (omega (arith, not_less, l, long)) ∙ sym (ap (λ (s : Seat). s.worker) (get_or-append_right xs ys (length xs) i d refl (omega (arith, not_less))))));
    }

pub keep_on : (xs ys zs : List Seat) → KeepWorkers xs ys → KeepWorkers ys zs → KeepWorkers xs zs
keep_on xs ys zs a b =
    let m = a.len in
    record { len = b.len ∙ m; each = λ i d l. b.each i d (omega (arith, l, m)) ∙ a.each i d l }

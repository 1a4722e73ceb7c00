-- What words name.
use Rattle.std.proofs.Common.{◌≡◌, ℕ, eqb, ◌+◌, ◌*◌, ◌^◌, ◌<◌, ◌≤◌, inl, inr, List, [], ◌∷◌, get_or, cond, refl, sym, ◌∙◌, ap, subst, arith, lit≤}
use Rattle.std.specs.Prelude.{codes, decimal}
use Rattle.std.specs.Str.Parse.{digits_value}
use Rattle.std.proofs.lemmas.Fmt.{decimal_is_IsNumeral}
use Rattle.mpc_cli.specs.declared.commands.Command.{Command}
use Rattle.mpc_cli.specs.declared.commands.Command.TheVariants.{OfPlant, OfFile, OfStates, Drill, Fleet}
use Rattle.mpc_cli.specs.declared.commands.StateCommand.TheVariants.{Solve, Robust}
use Rattle.mpc_cli.specs.declared.commands.PlantCommand.TheVariants.{Run, Compile, Trace}
use Rattle.mpc_cli.specs.declared.commands.FileCommand.TheVariants.{Check, Reply, Convert, Safe}
use Rattle.mpc_cli.specs.Commands.{IsWorkerCount, AsksFor, Names, IsCommand, HasCount, CommandWaits, CommandReads, Waits, Reads}

-- ---- the command that words name can be read off them
value_of : (n : ℕ) → n ≤ 95 → digits_value 10 (decimal n) ≡ n
value_of n p = let a : n < 2 ^ 64 = omega (arith, p) in (decimal_is_IsNumeral n a).1

-- the number that stands last, and 1 where there is the name alone
number_in : List (List ℕ) → ℕ
number_in [] = 0
number_in (name ∷ []) = 1
number_in (name ∷ number ∷ []) = digits_value 10 number
number_in (name ∷ option ∷ number ∷ words) = digits_value 10 number

-- the second and the third letter together tell the names apart
abbrev mark : List ℕ → ℕ
mark word = 2 * get_or word 1 0 + get_or word 2 0

abbrev choose : ℕ → ℕ → Command
choose m n = cond (eqb m 344) (OfPlant Run) (cond (eqb m 331) (OfPlant (Compile n)) (cond (eqb m 325) (OfPlant (Trace n))
    (cond (eqb m 309) (OfFile Check) (cond (eqb m 314) (OfFile Reply) (cond (eqb m 332) (OfFile Convert) (cond (eqb m 296) (OfFile Safe) (cond (eqb m 330) (OfStates Solve) (cond (eqb m 320) (OfStates Robust) (cond (eqb m 317) (Fleet n) (Drill n))))))))))

abbrev read_off : List (List ℕ) → Command
read_off words = choose (mark (get_or words 0 [])) (number_in words)

-- a command with a number of workers
module _ (name : List ℕ) (made : ℕ → Command) (read : (n : ℕ) → choose (mark name) n ≡ made n) where
  read_asked : (words : List (List ℕ)) (n : ℕ) → AsksFor name n words → read_off words ≡ made n
  unfolding number_in
  read_asked words n (inl h) = ap read_off h.1 ∙ read 1 ∙ ap made (sym h.0)
  read_asked words n (inr h) = ap read_off h.1 ∙ read (digits_value 10 (decimal n)) ∙ ap made (value_of n (let few = h.0.1 in omega (arith, few)))

read_named : (words : List (List ℕ)) (c : Command) → Names c words → read_off words ≡ c
unfolding number_in
read_named words (OfPlant Run) e = ap read_off e
read_named words (OfPlant (Compile n)) h = read_asked (codes "compile") (λ k. OfPlant (Compile k)) (λ k. refl) words n h
read_named words (OfPlant (Trace n)) h = read_asked (codes "trace") (λ k. OfPlant (Trace k)) (λ k. refl) words n h
read_named words (OfFile Check) e = ap read_off e
read_named words (OfFile Reply) e = ap read_off e
read_named words (OfFile Convert) e = ap read_off e
read_named words (OfFile Safe) e = ap read_off e
read_named words (OfStates Solve) e = ap read_off e
read_named words (OfStates Robust) e = ap read_off e
read_named words (Fleet n) h = read_asked (codes "fleet") Fleet (λ k. refl) words n h
read_named words (Drill n) h = ap read_off h.1 ∙ ap Drill (value_of n h.0.1)

-- words name one command
pub one_command : (words : List (List ℕ)) (c d : Command) → Names c words → Names d words → c ≡ d
one_command words c d h k = sym (read_named words c h) ∙ read_named words d k

-- ---- how many workers
count_asked : (name : List ℕ) (words : List (List ℕ)) (n : ℕ) → AsksFor name n words → IsWorkerCount n
count_asked name words n (inl h) = let e = h.0 in (omega arith, omega arith)
count_asked name words n (inr h) = h.0

pub named_count : (words : List (List ℕ)) (c : Command) → Names c words → HasCount c
named_count words (OfPlant Run) e = (lit≤ tt, lit≤ tt)
named_count words (OfPlant (Compile n)) h = count_asked (codes "compile") words n h
named_count words (OfPlant (Trace n)) h = count_asked (codes "trace") words n h
named_count words (OfFile c) e = tt
named_count words (OfStates c) e = tt
named_count words (Drill n) h = tt
named_count words (Fleet n) h = count_asked (codes "fleet") words n h

-- ---- who waits, and who reads
pub named_alone : (words : List (List ℕ)) (c : Command) → Names c words → (¬ Waits words) → ¬ CommandWaits c
named_alone words c named alone waits = alone (record { command = c; named = named; waits = waits })

pub unwaiting : (words : List (List ℕ)) (c : Command) → Names c words → (¬ CommandWaits c) → ¬ Waits words
unwaiting words c named alone w = alone (subst CommandWaits (one_command words w.command c w.named named) w.waits)

pub none_reads : (words : List (List ℕ)) → (¬ IsCommand words) → ¬ Reads words
none_reads words none r = none (r.command, r.named)

pub named_reads : (words : List (List ℕ)) (c : Command) → Names c words → Reads words → CommandReads c
named_reads words c named r = subst CommandReads (one_command words r.command c r.named named) r.reads

pub reads_named : (words : List (List ℕ)) (c : Command) → Names c words → (¬ Reads words) → ¬ CommandReads c
reads_named words c named unread reads = unread (record { command = c; named = named; reads = reads })

-- What passed through a device in a while.
use Rattle.std.specs.Prelude.{◌≡◌, ℕ, List, [], ◌∷◌, ◌++◌, Option, IfSome, Contains, take}
use Rattle.std.specs.List.{concat}
use Rattle.std.specs.Io.KnownBytes.{Appends, Consumes}

-- the pieces that a source gave in between are together these bytes
pub record Passed (given given_after : List (List ℕ)) (bytes : List ℕ) : Type 0 where
  pub pieces : List (List ℕ)
  pub came : given_after ≡ given ++ pieces
  pub whole : concat pieces ≡ bytes

-- and then it gave an empty one: nothing more comes
pub record PassedToEnd (given given_after : List (List ℕ)) (bytes : List ℕ) : Type 0 where
  pub before_end : List (List ℕ)
  pub passed : Passed given before_end bytes
  pub ended : given_after ≡ before_end ++ [] ∷ []

-- the pieces that a source gave in between are the first of the bytes that were left, where it tells these, and with an empty one they are all
pub record IsDrawn (left left_after : Option (List ℕ)) (given given_after : List (List ℕ)) : Type 0 where
  pub pieces : List (List ℕ)
  pub came : given_after ≡ given ++ pieces
  pub front : Consumes left left_after (concat pieces)
  pub all : Contains pieces [] → IfSome left (λ bytes. bytes ≡ concat pieces)

-- a sink took so many first bytes of these
pub record TookFront (taken taken_after bytes : List ℕ) : Type 0 where
  pub sent : ℕ
  pub took : taken_after ≡ taken ++ take sent bytes

-- and the writer behind it took just these
pub record TookThrough (contents contents_after : Option (List ℕ)) (taken taken_after bytes : List ℕ) : Type 0 where
  pub sent : ℕ
  pub took : taken_after ≡ taken ++ take sent bytes
  pub wrote : Appends contents contents_after (take sent bytes)

-- a source in memory, and the history of what it gave
pub record Giving (D : Type 0) : Type 0 where
  pub device : D
  pub given : List (List ℕ)

-- a reader of std, the count of its faults, and the history of what it gave
pub record HostInput (R : Type 0) : Type 0 where
  pub reader : R
  pub faults : ℕ
  pub given : List (List ℕ)

-- a writer of std, the count of its faults, and the bytes that it took
pub record HostOutput (W : Type 0) : Type 0 where
  pub writer : W
  pub faults : ℕ
  pub taken : List ℕ

-- The lines and the exit codes of statuses.
use Rattle.std.specs.Prelude.{ℕ, List, [], ◌∷◌, ◌++◌, codes, decimal}
use Rattle.mpc_status.specs.declared.status.Status.{Status}
use Rattle.mpc_status.specs.declared.status.Status.TheVariants.{Done, Usage, BadPlant, NotDefinite, TooWide, BadFile, Refused, ReadFault, WriteFault, TooLong, NoMemory, Unsafe, WideLater, BadNoise, TooManyPlants}
use Rattle.mpc_plant.specs.declared.faults.PlantKind.{PlantKind}
use Rattle.mpc_plant.specs.declared.faults.PlantKind.TheVariants.{NotJson, NotObject, UnknownKey, MissingKey, WrongKind, BadNumber, WrongShape, OverLimit, NotSymmetric, StepNotPositive, BadVersion}
use Rattle.mpc_rows.specs.PlaceText.{place_text}
use Rattle.mpc_grammar.specs.declared.errors.FileKind.{FileKind}
use Rattle.mpc_grammar.specs.declared.errors.FileKind.TheVariants.{BadLine, Truncated, TailAfterEnd, BadNode, OverBound}
use Rattle.mpc_status.specs.SpotText.{spot_text}
use Rattle.mpc_status.specs.LateText.{late_text}
use Rattle.mpc_recur.specs.NextText.{next_text}

abbrev pub kind_text : PlantKind → List ℕ
kind_text NotJson = codes "NotJson"
kind_text NotObject = codes "NotObject"
kind_text UnknownKey = codes "UnknownKey"
kind_text MissingKey = codes "MissingKey"
kind_text WrongKind = codes "WrongKind"
kind_text BadNumber = codes "BadNumber"
kind_text WrongShape = codes "WrongShape"
kind_text OverLimit = codes "OverLimit"
kind_text NotSymmetric = codes "NotSymmetric"
kind_text StepNotPositive = codes "StepNotPositive"
kind_text BadVersion = codes "BadVersion"

abbrev pub file_kind_text : FileKind → List ℕ
file_kind_text BadLine = codes "BadLine"
file_kind_text Truncated = codes "Truncated"
file_kind_text TailAfterEnd = codes "TailAfterEnd"
file_kind_text BadNode = codes "BadNode"
file_kind_text OverBound = codes "OverBound"

-- a blank and the path; nothing where the path is empty
abbrev pub path_text : List ℕ → List ℕ
path_text [] = []
path_text (b ∷ path) = codes " " ++ b ∷ path

-- the line that is written at a status; nothing for those without a line, and for Done, whose output is written
abbrev pub line_of : Status → List ℕ
line_of Done = []
line_of Usage = codes "usage\n"
line_of (BadPlant kind path) = codes "bad plant " ++ kind_text kind ++ path_text path ++ codes "\n"
line_of (NotDefinite pivot) = codes "not definite " ++ decimal pivot ++ codes "\n"
line_of (TooWide place) = codes "too wide " ++ place_text place ++ codes "\n"
line_of (BadFile kind number) = codes "bad file " ++ file_kind_text kind ++ codes " " ++ decimal number ++ codes "\n"
line_of (Refused spot) = codes "refused " ++ spot_text spot ++ codes "\n"
line_of ReadFault = []
line_of WriteFault = []
line_of TooLong = codes "too long\n"
line_of NoMemory = []
line_of (Unsafe one pairs) = codes "unsafe leaf " ++ next_text one ++ codes "\n"
line_of (WideLater place) = codes "too wide " ++ late_text place ++ codes "\n"
line_of BadNoise = codes "bad noise\n"
line_of TooManyPlants = codes "too many plants\n"

-- the exit code
abbrev pub code_of : Status → ℕ
code_of Done = 0
code_of Usage = 2
code_of (BadPlant kind path) = 3
code_of (NotDefinite pivot) = 4
code_of (TooWide place) = 5
code_of (BadFile kind number) = 6
code_of (Refused spot) = 7
code_of ReadFault = 8
code_of WriteFault = 9
code_of TooLong = 10
code_of NoMemory = 11
code_of (Unsafe one pairs) = 15
code_of (WideLater place) = 16
code_of BadNoise = 17
code_of TooManyPlants = 18

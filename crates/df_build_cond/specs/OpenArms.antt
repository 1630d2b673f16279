-- What the code holds of open arms.
use Rattle.std.specs.Prelude.{List, reverse, map}
use Rattle.df_build_cond.specs.declared.arms.Arm as code
use Rattle.df_build_cond.specs.Tables.{table_of}
use Rattle.df_build_cond.specs.Arms.{Arm}

abbrev pub arm_of : code.Arm → Arm
arm_of arm = record { control = arm.control; side = arm.side; gates = table_of arm.gates }

-- the code has the outermost first
abbrev pub arms_of : List code.Arm → List Arm
arms_of arms = reverse (map arm_of arms)

use borrow.Author.Rules.{rules}
use Rattle.store_evaluation.proofs.Numbers.{narrowed}
use Rattle.store_evaluation.proofs.Fusing.{arm-leaf, arm, arm-last}
use Rattle.store_evaluation.proofs.fused.Goals as goal

pub leaf-requires : goal.leaf-requires
leaf-requires c = (search rules, search (rules, arm-leaf 16))

pub combine-requires : goal.combine-requires
combine-requires c = (search (rules, narrowed), search (rules, narrowed))

pub leaf-requires-in-17 : goal.leaf-requires-in-17
leaf-requires-in-17 c = (search rules, search (rules, arm-leaf 17))

pub combine-requires-in-17 : goal.combine-requires-in-17
combine-requires-in-17 c = (search (rules, narrowed), search (rules, narrowed))

pub leaf-requires-in-18 : goal.leaf-requires-in-18
leaf-requires-in-18 c = (search rules, search (rules, arm-leaf 18))

pub combine-requires-in-18 : goal.combine-requires-in-18
combine-requires-in-18 c = (search (rules, narrowed), search (rules, narrowed))

pub leaf-requires-in-19 : goal.leaf-requires-in-19
leaf-requires-in-19 c = (search rules, search (rules, arm-leaf 19))

pub combine-requires-in-19 : goal.combine-requires-in-19
combine-requires-in-19 c = (search (rules, narrowed), search (rules, narrowed))

pub leaf-requires-in-20 : goal.leaf-requires-in-20
leaf-requires-in-20 c = (search rules, search (rules, arm-leaf 20))

pub combine-requires-in-20 : goal.combine-requires-in-20
combine-requires-in-20 c = (search (rules, narrowed), search (rules, narrowed))

pub leaf-requires-in-21 : goal.leaf-requires-in-21
leaf-requires-in-21 c = (search rules, search (rules, arm-leaf 21))

pub combine-requires-in-21 : goal.combine-requires-in-21
combine-requires-in-21 c = (search (rules, narrowed), search (rules, narrowed))

pub leaf-requires-in-22 : goal.leaf-requires-in-22
leaf-requires-in-22 c = (search rules, search (rules, arm-leaf 22))

pub combine-requires-in-22 : goal.combine-requires-in-22
combine-requires-in-22 c = (search (rules, narrowed), search (rules, narrowed))

pub leaf-requires-in-23 : goal.leaf-requires-in-23
leaf-requires-in-23 c = (search rules, search (rules, arm-leaf 23))

pub combine-requires-in-23 : goal.combine-requires-in-23
combine-requires-in-23 c = (search (rules, narrowed), search (rules, narrowed))

pub leaf-requires-in-24 : goal.leaf-requires-in-24
leaf-requires-in-24 c = (search rules, search (rules, arm-leaf 24))

pub combine-requires-in-24 : goal.combine-requires-in-24
combine-requires-in-24 c = (search (rules, narrowed), search (rules, narrowed))

pub leaf-requires-in-25 : goal.leaf-requires-in-25
leaf-requires-in-25 c = (search rules, search (rules, arm-leaf 25))

pub combine-requires-in-25 : goal.combine-requires-in-25
combine-requires-in-25 c = (search (rules, narrowed), search (rules, narrowed))

pub leaf-requires-in-26 : goal.leaf-requires-in-26
leaf-requires-in-26 c = (search rules, search (rules, arm-leaf 26))

pub combine-requires-in-26 : goal.combine-requires-in-26
combine-requires-in-26 c = (search (rules, narrowed), search (rules, narrowed))

pub leaf-requires-in-27 : goal.leaf-requires-in-27
leaf-requires-in-27 c = (search rules, search (rules, arm-leaf 27))

pub combine-requires-in-27 : goal.combine-requires-in-27
combine-requires-in-27 c = (search (rules, narrowed), search (rules, narrowed))

pub leaf-requires-in-28 : goal.leaf-requires-in-28
leaf-requires-in-28 c = (search rules, search (rules, arm-leaf 28))

pub combine-requires-in-28 : goal.combine-requires-in-28
combine-requires-in-28 c = (search (rules, narrowed), search (rules, narrowed))

pub leaf-requires-in-29 : goal.leaf-requires-in-29
leaf-requires-in-29 c = (search rules, search (rules, arm-leaf 29))

pub combine-requires-in-29 : goal.combine-requires-in-29
combine-requires-in-29 c = (search (rules, narrowed), search (rules, narrowed))

pub leaf-requires-in-32 : goal.leaf-requires-in-32
leaf-requires-in-32 c = (search rules, search (rules, arm-leaf 32))

pub combine-requires-in-32 : goal.combine-requires-in-32
combine-requires-in-32 c = (search (rules, narrowed), search (rules, narrowed))

pub leaf-requires-in-33 : goal.leaf-requires-in-33
leaf-requires-in-33 c = (search rules, search (rules, arm-leaf 33))

pub combine-requires-in-33 : goal.combine-requires-in-33
combine-requires-in-33 c = (search (rules, narrowed), search (rules, narrowed))

pub leaf-requires-in-34 : goal.leaf-requires-in-34
leaf-requires-in-34 c = (search rules, search (rules, arm-leaf 34))

pub combine-requires-in-34 : goal.combine-requires-in-34
combine-requires-in-34 c = (search (rules, narrowed), search (rules, narrowed))

pub leaf-requires-in-35 : goal.leaf-requires-in-35
leaf-requires-in-35 c = (search rules, search (rules, arm-leaf 35))

pub combine-requires-in-35 : goal.combine-requires-in-35
combine-requires-in-35 c = (search (rules, narrowed), search (rules, narrowed))

pub leaf-requires-in-36 : goal.leaf-requires-in-36
leaf-requires-in-36 c = (search rules, search (rules, arm-leaf 36))

pub combine-requires-in-36 : goal.combine-requires-in-36
combine-requires-in-36 c = (search (rules, narrowed), search (rules, narrowed))

pub leaf-requires-in-37 : goal.leaf-requires-in-37
leaf-requires-in-37 c = (search rules, search (rules, arm-leaf 37))

pub combine-requires-in-37 : goal.combine-requires-in-37
combine-requires-in-37 c = (search (rules, narrowed), search (rules, narrowed))

pub leaf-requires-in-38 : goal.leaf-requires-in-38
leaf-requires-in-38 c = (search rules, search (rules, arm-leaf 38))

pub combine-requires-in-38 : goal.combine-requires-in-38
combine-requires-in-38 c = (search (rules, narrowed), search (rules, narrowed))

pub leaf-requires-in-39 : goal.leaf-requires-in-39
leaf-requires-in-39 c = (search rules, search (rules, arm-leaf 39))

pub combine-requires-in-39 : goal.combine-requires-in-39
combine-requires-in-39 c = (search (rules, narrowed), search (rules, narrowed))

pub leaf-requires-in-40 : goal.leaf-requires-in-40
leaf-requires-in-40 c = (search rules, search (rules, arm-leaf 40))

pub combine-requires-in-40 : goal.combine-requires-in-40
combine-requires-in-40 c = (search (rules, narrowed), search (rules, narrowed))

pub leaf-requires-in-41 : goal.leaf-requires-in-41
leaf-requires-in-41 c = (search rules, search (rules, arm-leaf 41))

pub combine-requires-in-41 : goal.combine-requires-in-41
combine-requires-in-41 c = (search (rules, narrowed), search (rules, narrowed))

pub leaf-requires-in-42 : goal.leaf-requires-in-42
leaf-requires-in-42 c = (search rules, search (rules, arm-leaf 42))

pub combine-requires-in-42 : goal.combine-requires-in-42
combine-requires-in-42 c = (search (rules, narrowed), search (rules, narrowed))

pub leaf-requires-in-43 : goal.leaf-requires-in-43
leaf-requires-in-43 c = (search rules, search (rules, arm-leaf 43))

pub combine-requires-in-43 : goal.combine-requires-in-43
combine-requires-in-43 c = (search (rules, narrowed), search (rules, narrowed))

pub leaf-requires-in-44 : goal.leaf-requires-in-44
leaf-requires-in-44 c = (search rules, search (rules, arm-leaf 44))

pub combine-requires-in-44 : goal.combine-requires-in-44
combine-requires-in-44 c = (search (rules, narrowed), search (rules, narrowed))

pub leaf-requires-in-45 : goal.leaf-requires-in-45
leaf-requires-in-45 c = (search rules, search (rules, arm-leaf 45))

pub combine-requires-in-45 : goal.combine-requires-in-45
combine-requires-in-45 c = (search (rules, narrowed), search (rules, narrowed))

pub leaf-requires-in-48 : goal.leaf-requires-in-48
leaf-requires-in-48 c = (search rules, search (rules, arm-leaf 48))

pub combine-requires-in-48 : goal.combine-requires-in-48
combine-requires-in-48 c = (search (rules, narrowed), search (rules, narrowed))

pub leaf-requires-in-49 : goal.leaf-requires-in-49
leaf-requires-in-49 c = (search rules, search (rules, arm-leaf 49))

pub combine-requires-in-49 : goal.combine-requires-in-49
combine-requires-in-49 c = (search (rules, narrowed), search (rules, narrowed))

pub leaf-requires-in-50 : goal.leaf-requires-in-50
leaf-requires-in-50 c = (search rules, search (rules, arm-leaf 50))

pub combine-requires-in-50 : goal.combine-requires-in-50
combine-requires-in-50 c = (search (rules, narrowed), search (rules, narrowed))

pub leaf-requires-in-51 : goal.leaf-requires-in-51
leaf-requires-in-51 c = (search rules, search (rules, arm-leaf 51))

pub combine-requires-in-51 : goal.combine-requires-in-51
combine-requires-in-51 c = (search (rules, narrowed), search (rules, narrowed))

pub leaf-requires-in-52 : goal.leaf-requires-in-52
leaf-requires-in-52 c = (search rules, search (rules, arm-leaf 52))

pub combine-requires-in-52 : goal.combine-requires-in-52
combine-requires-in-52 c = (search (rules, narrowed), search (rules, narrowed))

pub leaf-requires-in-53 : goal.leaf-requires-in-53
leaf-requires-in-53 c = (search rules, search (rules, arm-leaf 53))

pub combine-requires-in-53 : goal.combine-requires-in-53
combine-requires-in-53 c = (search (rules, narrowed), search (rules, narrowed))

pub leaf-requires-in-54 : goal.leaf-requires-in-54
leaf-requires-in-54 c = (search rules, search (rules, arm-leaf 54))

pub combine-requires-in-54 : goal.combine-requires-in-54
combine-requires-in-54 c = (search (rules, narrowed), search (rules, narrowed))

pub leaf-requires-in-55 : goal.leaf-requires-in-55
leaf-requires-in-55 c = (search rules, search (rules, arm-leaf 55))

pub combine-requires-in-55 : goal.combine-requires-in-55
combine-requires-in-55 c = (search (rules, narrowed), search (rules, narrowed))

pub leaf-requires-in-56 : goal.leaf-requires-in-56
leaf-requires-in-56 c = (search rules, search (rules, arm-leaf 56))

pub combine-requires-in-56 : goal.combine-requires-in-56
combine-requires-in-56 c = (search (rules, narrowed), search (rules, narrowed))

pub leaf-requires-in-57 : goal.leaf-requires-in-57
leaf-requires-in-57 c = (search rules, search (rules, arm-leaf 57))

pub combine-requires-in-57 : goal.combine-requires-in-57
combine-requires-in-57 c = (search (rules, narrowed), search (rules, narrowed))

pub leaf-requires-in-58 : goal.leaf-requires-in-58
leaf-requires-in-58 c = (search rules, search (rules, arm-leaf 58))

pub combine-requires-in-58 : goal.combine-requires-in-58
combine-requires-in-58 c = (search (rules, narrowed), search (rules, narrowed))

pub leaf-requires-in-59 : goal.leaf-requires-in-59
leaf-requires-in-59 c = (search rules, search (rules, arm-leaf 59))

pub combine-requires-in-59 : goal.combine-requires-in-59
combine-requires-in-59 c = (search (rules, narrowed), search (rules, narrowed))

pub leaf-requires-in-60 : goal.leaf-requires-in-60
leaf-requires-in-60 c = (search rules, search (rules, arm-leaf 60))

pub combine-requires-in-60 : goal.combine-requires-in-60
combine-requires-in-60 c = (search (rules, narrowed), search (rules, narrowed))

pub leaf-requires-in-61 : goal.leaf-requires-in-61
leaf-requires-in-61 c = (search rules, search (rules, arm-leaf 61))

pub combine-requires-in-61 : goal.combine-requires-in-61
combine-requires-in-61 c = (search (rules, narrowed), search (rules, narrowed))

pub combine-requires-in_default : goal.combine-requires-in_default
combine-requires-in_default c = (search (rules, narrowed), search (rules, narrowed))

pub returns-in-16 : goal.returns-in-16
returns-in-16 c = search (rules, arm 16)

pub returns-in-17 : goal.returns-in-17
returns-in-17 c = search (rules, arm 17)

pub returns-in-18 : goal.returns-in-18
returns-in-18 c = search (rules, arm 18)

pub returns-in-19 : goal.returns-in-19
returns-in-19 c = search (rules, arm 19)

pub returns-in-20 : goal.returns-in-20
returns-in-20 c = search (rules, arm 20)

pub returns-in-21 : goal.returns-in-21
returns-in-21 c = search (rules, arm 21)

pub returns-in-22 : goal.returns-in-22
returns-in-22 c = search (rules, arm 22)

pub returns-in-23 : goal.returns-in-23
returns-in-23 c = search (rules, arm 23)

pub returns-in-24 : goal.returns-in-24
returns-in-24 c = search (rules, arm 24)

pub returns-in-25 : goal.returns-in-25
returns-in-25 c = search (rules, arm 25)

pub returns-in-26 : goal.returns-in-26
returns-in-26 c = search (rules, arm 26)

pub returns-in-27 : goal.returns-in-27
returns-in-27 c = search (rules, arm 27)

pub returns-in-28 : goal.returns-in-28
returns-in-28 c = search (rules, arm 28)

pub returns-in-29 : goal.returns-in-29
returns-in-29 c = search (rules, arm 29)

pub returns-in-32 : goal.returns-in-32
returns-in-32 c = search (rules, arm 32)

pub returns-in-33 : goal.returns-in-33
returns-in-33 c = search (rules, arm 33)

pub returns-in-34 : goal.returns-in-34
returns-in-34 c = search (rules, arm 34)

pub returns-in-35 : goal.returns-in-35
returns-in-35 c = search (rules, arm 35)

pub returns-in-36 : goal.returns-in-36
returns-in-36 c = search (rules, arm 36)

pub returns-in-37 : goal.returns-in-37
returns-in-37 c = search (rules, arm 37)

pub returns-in-38 : goal.returns-in-38
returns-in-38 c = search (rules, arm 38)

pub returns-in-39 : goal.returns-in-39
returns-in-39 c = search (rules, arm 39)

pub returns-in-40 : goal.returns-in-40
returns-in-40 c = search (rules, arm 40)

pub returns-in-41 : goal.returns-in-41
returns-in-41 c = search (rules, arm 41)

pub returns-in-42 : goal.returns-in-42
returns-in-42 c = search (rules, arm 42)

pub returns-in-43 : goal.returns-in-43
returns-in-43 c = search (rules, arm 43)

pub returns-in-44 : goal.returns-in-44
returns-in-44 c = search (rules, arm 44)

pub returns-in-45 : goal.returns-in-45
returns-in-45 c = search (rules, arm 45)

pub returns-in-48 : goal.returns-in-48
returns-in-48 c = search (rules, arm 48)

pub returns-in-49 : goal.returns-in-49
returns-in-49 c = search (rules, arm 49)

pub returns-in-50 : goal.returns-in-50
returns-in-50 c = search (rules, arm 50)

pub returns-in-51 : goal.returns-in-51
returns-in-51 c = search (rules, arm 51)

pub returns-in-52 : goal.returns-in-52
returns-in-52 c = search (rules, arm 52)

pub returns-in-53 : goal.returns-in-53
returns-in-53 c = search (rules, arm 53)

pub returns-in-54 : goal.returns-in-54
returns-in-54 c = search (rules, arm 54)

pub returns-in-55 : goal.returns-in-55
returns-in-55 c = search (rules, arm 55)

pub returns-in-56 : goal.returns-in-56
returns-in-56 c = search (rules, arm 56)

pub returns-in-57 : goal.returns-in-57
returns-in-57 c = search (rules, arm 57)

pub returns-in-58 : goal.returns-in-58
returns-in-58 c = search (rules, arm 58)

pub returns-in-59 : goal.returns-in-59
returns-in-59 c = search (rules, arm 59)

pub returns-in-60 : goal.returns-in-60
returns-in-60 c = search (rules, arm 60)

pub returns-in-61 : goal.returns-in-61
returns-in-61 c = search (rules, arm 61)

pub returns-in_default : goal.returns-in_default
returns-in_default c = search (rules, arm-last)

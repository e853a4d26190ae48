mod Grades
mod Lengths
mod Sections
mod Windows

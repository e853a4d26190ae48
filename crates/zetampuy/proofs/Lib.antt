mod Boxed
